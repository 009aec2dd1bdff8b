-- `stream::shift` meets its contract: each byte is read before it is written over. Assumes nothing.
use mathlib.Core.Path.{◌≡◌}
use lib.ListN.{drop}
use lib.Seq.{paste}
use Rattle.stream.proofs.shift.Given as goal

abbrev pub invariant-loop-i : goal.invariant-loop-i
invariant-loop-i l = l.window ≡ paste l.initial.window 0 (drop l.from l.initial.window) l.i
