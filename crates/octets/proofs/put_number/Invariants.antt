-- `octets::put_number` meets its contract: the loop goes down from the last byte, and what it has yet to write is the bytes of what is left of the number. Assumes nothing.
use mathlib.Core.Path.{◌≡◌}
use mathlib.Core.List.{◌++◌}
use lib.ListN.{length, drop}
use Rattle.octets.specs.Numbers.{bytes_of}
use Rattle.octets.proofs.put_number.Given as goal

abbrev pub invariant-loop-i : goal.invariant-loop-i
invariant-loop-i l = bytes_of l.i l.y ++ drop l.i l.s ≡ bytes_of (length l.initial.s) l.x
