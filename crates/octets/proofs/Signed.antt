-- Two's complement at every width: there and back; and the casts of 32 bits. Assumes nothing.
use mathlib.Core.Path.{◌≡◌, refl, sym, ap, ◌∙◌}
use mathlib.Core.Bool.{Bool, true, false, cond}
use Prim.Native.Nat.{ℕ, suc, ◌-◌, ◌*◌, ◌^◌, ◌≤◌, ◌<◌}
use native.Mathlib.Nat.{lt_of_lt_of_le}
use mir.Val.{sel}
use Rattle.std.specs.Int.{w32, cast_signed, cast_unsigned}
use Rattle.std.specs.Prelude.{min}
use native.Mathlib.Omega.{arith}
use borrow.Author.Tests.{lt-ltb, le-ltb, leb-true, leb-false, ltb-true, ltb-false}
use lib.Dec.{ltb, leb}
use lib.Pow.{pow_mono}
use lib.IntN.{ℤ, pos, negsuc}
use lib.Signed.{mag}
use Rattle.octets.specs.Signed.{half, signed_of, raw_of}

-- ---- the laws of a field whose sign bit is worth h
module _ (h : ℕ) where
  pub signed_low : (n : ℕ) → n < h → signed_of h n ≡ pos n
  signed_low n l = simp (lt-ltb n h l)

  pub signed_high : (n : ℕ) → h ≤ n → signed_of h n ≡ negsuc (h * 2 - suc n)
  signed_high n l = simp (le-ltb n h l)

  -- n as a number of the field is read, and written back
  pub raw_signed : (n : ℕ) → n < h * 2 → raw_of h (signed_of h n) ≡ n
  raw_signed n l = go (ltb n h) refl
    where
      back : h * 2 - suc (h * 2 - suc n) ≡ n
      back = omega arith

      go : (b : Bool) → ltb n h ≡ b → raw_of h (cond b (pos n) (negsuc (h * 2 - suc n))) ≡ n
      go true e = refl
      go false e = back

  -- a number that the field holds is written, and read back
  pub signed_raw : (z : ℤ) → mag z < h → signed_of h (raw_of h z) ≡ z
  signed_raw (pos n) l = ap (λ (b : Bool). cond b (pos n) (negsuc (h * 2 - suc n))) (lt-ltb n h l)
  signed_raw (negsuc n) l =
      let big : h ≤ h * 2 - suc n = omega arith in
      let back : h * 2 - suc (h * 2 - suc n) ≡ n = omega arith in
      ap (λ (b : Bool). cond b (pos (h * 2 - suc n)) (negsuc (h * 2 - suc (h * 2 - suc n)))) (le-ltb (h * 2 - suc n) h big) ∙ ap negsuc back

  -- what is read fits the field, and what is written
  pub signed_fits : (n : ℕ) → n < h * 2 → mag (signed_of h n) < h
  signed_fits n l = go (ltb n h) (ltb-true n h) (ltb-false n h)
    where
      go : (b : Bool) → (b ≡ true → n < h) → (b ≡ false → h ≤ n) → mag (cond b (pos n) (negsuc (h * 2 - suc n))) < h
      go true p q = p refl
      go false p q = let k = q refl in omega arith

  pub raw_fits : (z : ℤ) → mag z < h → raw_of h z < h * 2
  raw_fits (pos n) l = omega arith
  raw_fits (negsuc n) l = omega arith

-- 64 bits hold every number of theirs, and so does any wider field
pub half_cut : (m w : ℕ) → m < 9223372036854775808 → ltb m (half (min w 64)) ≡ ltb m (half w)
half_cut m w l = go (leb w 64) refl
  where
    go : (b : Bool) → leb w 64 ≡ b → ltb m (half (min w 64)) ≡ ltb m (half w)
    go true e = let z : min w 64 ≡ w = omega (arith, leb-true w 64 e) in ap (λ n. ltb m (half n)) z
    go false e =
        let z : min w 64 ≡ 64 = omega (arith, leb-false w 64 e) in
        ap (λ n. ltb m (half n)) z ∙ lt-ltb m (half 64) l ∙ sym (lt-ltb m (half w) (lt_of_lt_of_le l (pow_mono {i = 63} {j = w - 1} (omega (arith, leb-false w 64 e)))))

-- the casts between u32 and i32
pub signed_cast : (n : ℕ) → cast_signed w32 n ≡ signed_of (half 32) n
signed_cast n = go (ltb n (half 32))
  where
    go : (b : Bool) → sel b (pos n) (negsuc (2 ^ 32 - suc n)) ≡ cond b (pos n) (negsuc (half 32 * 2 - suc n))
    go true = refl
    go false = refl

pub raw_cast : (z : ℤ) → cast_unsigned w32 z ≡ raw_of (half 32) z
raw_cast (pos n) = refl
raw_cast (negsuc n) = refl
