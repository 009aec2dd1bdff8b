-- `lines::put_listed` meets its contract: before each turn the lines of the rows that came are put. Assumes nothing.
use Prim.Native.Nat.{◌*◌, ◌≤◌}
use mathlib.Core.Path.{◌≡◌}
use lib.ListN.{length, take, drop}
use Rattle.text.specs.Put.{appended}
use Rattle.lines.specs.Breaks.{breaks_up_to}
use Rattle.lines.proofs.put_listed.Given as goal

abbrev pub invariant-loop-row : goal.invariant-loop-row
invariant-loop-row l =
    (length l.yielded ≤ l.count) × (l.row-iterator.size ≡ 3) × (l.row-iterator.rest.now ≡ drop (3 * length l.yielded) (take (3 * l.count) l.list))
    × (l.text ≡ appended (breaks_up_to (length l.yielded) l.position l.list) l.initial.text)
