-- What `plot_row` computes is the row of its contract, and that row lies within its bounds. Assumes nothing.
use mathlib.Core.Path.{◌≡◌, refl}
use mathlib.Core.Bool.{true, false}
use Prim.Native.Nat.{ℕ, suc, ◌+◌, ◌*◌, ◌^◌, ◌≤◌, ◌<◌}
use native.Mathlib.Nat.{le_trans, lt_of_le_of_lt}
use native.Mathlib.Omega.{arith}
use lib.Dec.{lit<, lit≤}
use lib.Pow.{pow_pos}
use lib.IntN.{ℤ, pos, negsuc, nat_abs}
use lib.Signed.{nat_abs-le}
use lib.Ieee.{Float, binary64, round, div, of_int, of_bits}
use lib.Ieee.Exact.{HasValue}
use lib.Ieee.Back.{round_whole}
use mir.Syntax.{w32}
use mir.Val.{SFits, to_z, of_z}
use mir.ValLaws.{to_z-of_z}
use Rattle.track.specs.declared.PlotRow.{PlotRow}
use Rattle.track.specs.Range.{range_of}
use Rattle.track.specs.Row.{nearest_to, Within, row_of, Bounded}
use Rattle.track.proofs.HalfUnit.{round_near, weaker, within, quotient}

-- ---- one law for both doubles: z / c, with c a float and z an integer that a double holds
-- the double nearest to z / c is what the division of the two doubles gives
quotient_is : (z : ℤ) (c : ℕ) (y : Float) → nat_abs z ≤ 2 ^ 53 → 0 < c → HasValue y false c 1 → div binary64 (of_int binary64 z) y ≡ nearest_to z c
unfolding of_int
quotient_is (pos n) c y h C v = quotient binary64 (round binary64 false n 1) y false n c C (round_whole binary64 false n h) v
quotient_is (negsuc n) c y h C v = quotient binary64 (round binary64 true (suc n) 1) y true (suc n) c C (round_whole binary64 true (suc n) h) v

-- below 2 ^ w, that double is within 1 / 2 ^ j of z / c, where w + j is 54; so within any a / b that is no less
nearest_within : (z : ℤ) (c w j a b : ℕ) → w + j ≡ 54 → 0 < c → nat_abs z < 2 ^ w * c → 1 * b ≤ a * 2 ^ j → Within (nearest_to z c) z c a b
nearest_within (pos n) c w j a b e C h l =
    within (round binary64 false n c) (pos n) c a b (weaker (round binary64 false n c) false n c 1 (2 ^ j) a b (pow_pos j) l (round_near binary64 false n c w j e C h))
nearest_within (negsuc n) c w j a b e C h l =
    within (round binary64 true (suc n) c) (negsuc n) c a b (weaker (round binary64 true (suc n) c) true (suc n) c 1 (2 ^ j) a b (pow_pos j) l (round_near binary64 true (suc n) c w j e C h))

-- ---- the row
-- every range is below 2 ^ 26 m: this is all that the row needs to know of the factor
range_below : (pseudorange : ℕ) → pseudorange < 2 ^ 32 → range_of pseudorange < 2 ^ 26 * 10 ^ 6
unfolding range_of
range_below pseudorange h = omega arith

pub range_exact : (pseudorange : ℕ) → pseudorange < 2 ^ 32 → range_of pseudorange ≤ 2 ^ 53
range_exact pseudorange h = omega (arith, range_below pseudorange h)

-- 1000000.0 and 10000.0, by their bits
abbrev million : Float
million = of_bits binary64 4696837146684686336

abbrev myriad : Float
myriad = of_bits binary64 4666723172467343360

million_is : HasValue million false (10 ^ 6) 1
unfolding of_bits
million_is = (refl, refl)

myriad_is : HasValue myriad false (10 ^ 4) 1
unfolding of_bits
myriad_is = (refl, refl)

-- what the code computes of the whole micrometres and RATE, which the machine reads back from its bits
abbrev pub computed : ℕ → ℤ → PlotRow
computed micrometres rate =
    record { range = div binary64 (of_int binary64 (pos micrometres)) million; rate = div binary64 (of_int binary64 (to_z w32 (of_z w32 rate))) myriad }

module _ (pseudorange : ℕ) (rate : ℤ) (p : pseudorange < 2 ^ 32) (f : SFits w32 rate) where
  rate_small : nat_abs rate ≤ 2 ^ 31
  rate_small = nat_abs-le rate f.sfits

  pub row_is : computed (range_of pseudorange) rate ≡ row_of pseudorange rate
  row_is =
      let r = quotient_is (pos (range_of pseudorange)) (10 ^ 6) million (range_exact pseudorange p) (lit< tt) million_is in
      let h = quotient_is rate (10 ^ 4) myriad (le_trans rate_small (lit≤ tt)) (lit< tt) myriad_is in
      rw (to_z-of_z w32 rate f) (λ i. record { range = r i; rate = h i })

  -- half a unit of the last place is 2 ^ -28 m below 2 ^ 26 m, and 2 ^ -36 Hz below 2 ^ 18 Hz
  pub row_bounded : Bounded pseudorange rate (row_of pseudorange rate)
  row_bounded = record {
    range_near = nearest_within (pos (range_of pseudorange)) (10 ^ 6) 26 28 _ _ refl (lit< tt) (range_below pseudorange p) (lit≤ tt);
    rate_near = nearest_within rate (10 ^ 4) 18 36 _ _ refl (lit< tt) (lt_of_le_of_lt rate_small (lit< tt)) (lit≤ tt);
  }
