-- `text::round_thousandths` meets its contract. Assumes nothing.
use Prim.Native.Nat.{◌-◌, ◌*◌, ◌%◌, ◌^◌, ◌<◌, ℕ}
use mathlib.Core.Path.{◌≡◌, ◌∙◌}
use native.Mathlib.Omega.{arith}
use lib.Pow.{shl_exact}
use Rattle.text.proofs.Rounding.{thousandths_shift, thousandths_nought}
use lib.Dec.{lit<}
use native.Mathlib.Nat.{one-mul}
use Rattle.text.proofs.round_thousandths.Goals as goal

half_is : (places : ℕ) → places < 64 → 1 * 2 ^ places % 18446744073709551616 ≡ 2 ^ places
half_is places h = shl_exact {a = 1} 1 places 64 (lit< tt) (omega arith) ∙ one-mul (2 ^ places)

pub returns-then-exponent-lt1012 : goal.returns-then-exponent-lt1012
returns-then-exponent-lt1012 c = thousandths_nought c.args.bits (omega arith)

pub returns : goal.returns
returns c =
    let s = c.args in
    let places = 1075 - s.exponent in
    rw (half_is places (omega arith)) (thousandths_shift s.bits s.exponent places c.requires.0 (omega arith) (omega arith))
