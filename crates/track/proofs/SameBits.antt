-- Bits whose exponent is not all ones are no NaN's, and the float that is read from them is finite and has these very bits; else it is not finite.
-- Assumes nothing.
use mathlib.Core.Path.{◌≡◌, refl, sym, ap, ◌∙◌, subst}
use mathlib.Core.Bool.{Bool, true, false, cond, not, ◌&&◌}
use Prim.Native.Nat.{ℕ, ◌*◌, ◌/◌, ◌%◌, ◌<◌}
use native.Mathlib.Omega.{arith}
use lib.Dec.{T, eqb, leb, eqb→eq, not_T}
use lib.Ieee.{Float, nan, inf, fin, Format, binary32, binary64, hid, ones, top, nan_bits, of_fields, of_bits, to_bits}
use lib.Ieee.Fits.{and_l}
use lib.Ieee.Scale.{finite}
use lib.Ieee.Bits.{nan_bits_is, to_bits-of_bits}
use Rattle.track.specs.declared.Polarity.{Polarity}
use Rattle.track.specs.declared.Polarity.TheVariants.{NotKnown, NotCorrected, NeedsHalfCycle, Undefined}
use Rattle.track.specs.Shown.{exponent, HasBits, PhaseShows, cycles_with}

-- the field, taken either way round, is all ones at once
exponent_is : (f : Format) (b : ℕ) → b % top f / hid f ≡ ones f → exponent f b ≡ ones f
exponent_is binary32 b e = omega arith
exponent_is binary64 b e = omega arith

exponent_of : (f : Format) (b : ℕ) → exponent f b ≡ ones f → b % top f / hid f ≡ ones f
exponent_of binary32 b e = omega arith
exponent_of binary64 b e = omega arith

-- the patterns of the infinities and of `nan` have a field that is all ones
is_finite : (f : Format) (x : Float) → (exponent f (to_bits f x) ≡ ones f → ⊥) → T (finite x)
unfolding to_bits
is_finite binary32 nan h = h refl
is_finite binary32 (inf true) h = h refl
is_finite binary32 (inf false) h = h refl
is_finite binary64 nan h = h refl
is_finite binary64 (inf true) h = h refl
is_finite binary64 (inf false) h = h refl
is_finite f (fin s m e) h = tt

module _ (f : Format) (b : ℕ) (h : exponent f b ≡ ones f → ⊥) where
  pub no_nan : T (not (nan_bits f b))
  unfolding nan_bits
  no_nan =
      let t = eqb (b % top f / hid f) (ones f) in
      let u = not (eqb (b % hid f) 0) in
      not_T (t && u) (λ (y : T (t && u)). h (exponent_is f b (eqb→eq (b % top f / hid f) (ones f) (and_l t u y))))

  pub has_bits : b < 2 * top f → HasBits f (of_bits f b) b
  has_bits l =
      let same : to_bits f (of_bits f b) ≡ b = to_bits-of_bits f b l (subst (λ (t : Bool). T (not t)) (nan_bits_is f b) no_nan) in
      (same, is_finite f (of_bits f b) (λ e. h (ap (exponent f) (sym same) ∙ e)))

-- cycles have their double's bits, whatever the polarity
pub cycles_show : (p : Polarity) (x : Float) (b : ℕ) → HasBits binary64 x b → PhaseShows (cycles_with p x) b
cycles_show NotKnown x b h = h
cycles_show NotCorrected x b h = h
cycles_show NeedsHalfCycle x b h = h
cycles_show (Undefined code) x b h = h

pub not_finite : (f : Format) (b : ℕ) → exponent f b ≡ ones f → finite (of_bits f b) ≡ false
unfolding of_bits of_fields
not_finite f b e = ap (λ x. finite (of_fields f (leb (top f) b) x (b % hid f))) (exponent_of f b e) ∙ none f (leb (top f) b) (b % hid f)
  where
    no_number : (s t : Bool) → finite (cond t (inf s) nan) ≡ false
    no_number s true = refl
    no_number s false = refl

    none : (f : Format) (s : Bool) (t : ℕ) → finite (of_fields f s (ones f) t) ≡ false
    none binary32 s t = no_number s (eqb t 0)
    none binary64 s t = no_number s (eqb t 0)
