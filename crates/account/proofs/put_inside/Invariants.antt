-- `account::put_inside` meets its contract: before each turn the lines up to its position are put. Assumes nothing.
use Prim.Native.Nat.{◌+◌, ◌-◌, ◌≤◌}
use mathlib.Core.Path.{◌≡◌}
use Rattle.text.specs.Put.{appended}
use Rattle.account.specs.Account.{lines_of}
use Rattle.account.specs.Steps.{inside_of}
use Rattle.account.proofs.put_inside.Given as goal

abbrev pub invariant-loop-position : goal.invariant-loop-position
invariant-loop-position l =
    (l.start + 1 ≤ l.position) × (l.position ≤ l.end) × (l.text ≡ appended (lines_of (inside_of l.start) (l.start + 1) (l.position - (l.start + 1))) l.initial.text)
