-- The plot row: each double exactly, and its bounds against whole numbers. Definitions only.
use Rattle.std.specs.Prelude.{ℕ, suc, ◌*◌, ◌^◌, ◌≤◌, Bool, true, false, ℤ, pos, negsuc, neg_ℤ, nat_abs, ◌-ℤ◌, ◌*ℤ◌, Float}
use Rattle.std.specs.Float.{nan, inf, fin, binary64}
use Rattle.std.specs.Float.Ieee.{up, down, round}
use Rattle.track.specs.declared.PlotRow.{PlotRow}
use Rattle.track.specs.Range.{range_of}

-- the double nearest to z / c, and at a tie the one whose last digit is even (negsuc n is -(n + 1); `round` takes the sign, true for minus)
abbrev pub nearest_to : ℤ → ℕ → Float
nearest_to (pos n) c = round binary64 false n c
nearest_to (negsuc n) c = round binary64 true (suc n) c

-- n, or -n where the sign is true
abbrev pub with_sign : Bool → ℕ → ℤ
with_sign false n = pos n
with_sign true n = neg_ℤ (pos n)

-- x is finite and |x - z / c| ≤ a / b. A finite x is ± m * 2 ^ e, which is the fraction ± m * up e / down e of whole numbers, so this is said
-- with the denominators multiplied out
abbrev pub Within : Float → ℤ → ℕ → ℕ → ℕ → Type 0
Within nan z c a b = ⊥
Within (inf s) z c a b = ⊥
Within (fin s m e) z c a b = nat_abs (with_sign s (m * up e * c) -ℤ (z *ℤ pos (down e))) * b ≤ a * c * down e

-- the doubles nearest to the whole micrometres / 10 ^ 6 and to RATE / 10 ^ 4
abbrev pub row_of : ℕ → ℤ → PlotRow
row_of pseudorange rate = record { range = nearest_to (pos (range_of pseudorange)) (10 ^ 6); rate = nearest_to rate (10 ^ 4) }

-- within 4 / 10 ^ 9 m of the whole micrometres and within 2 / 10 ^ 11 Hz of RATE / 10 ^ 4
pub record Bounded (pseudorange : ℕ) (rate : ℤ) (row : PlotRow) : Type 0 where
  pub range_near : Within row.range (pos (range_of pseudorange)) (10 ^ 6) 4 (10 ^ 9)
  pub rate_near : Within row.rate rate (10 ^ 4) 2 (10 ^ 11)
