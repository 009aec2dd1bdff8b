-- `text::Text::put_digits` meets its contract: without the digits that have no room, what is put stays. Assumes nothing.
use Prim.Native.Nat.{◌-◌, ◌≤◌}
use mathlib.Core.Path.{◌≡◌}
use Rattle.text.specs.Digits.{digits}
use Rattle.text.specs.Put.{appended}
use Rattle.text.proofs.Text.put_digits.Given as goal

abbrev pub invariant-loop : goal.invariant-loop
invariant-loop l = (l.counter - l.room ≤ l.width - l.room) × (appended (digits l.base (l.width - (l.counter - l.room)) l.rest) l.self ≡ appended (digits l.base l.width l.n) l.self)
