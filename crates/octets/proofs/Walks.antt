-- What a walk over bytes has come to, a byte at a time. Assumes nothing.
use Prim.Native.Nat.{ℕ, suc, ◌+◌, ◌-◌, ◌*◌, ◌/◌, ◌%◌, ◌≤◌, ◌<◌}
use mathlib.Core.Path.{◌≡◌, refl, sym, ap, ap₂, ◌∙◌}
use mathlib.Core.List.{List, [], ◌∷◌, ◌++◌}
use native.Mathlib.Omega.{arith}
use native.Mathlib.Numerals.{add-one}
use borrow.Author.Tests.{eq-eqb, ne_eqb}
use lib.Bits.{bit_xor}
use lib.ListN.{length, get_or, set, take, drop, length-set, drop_of_length-le}
use lib.Seq.{take-add, take-suc, take_all, drop-cons, get_or-take, get_or-drop, get_or-set_same, drop-set-lt, append_snoc}
use Rattle.octets.specs.declared.Fit.TheVariants.{Whole, Part, Bad}
use Rattle.octets.specs.Begins.{common, fit}
use Rattle.octets.specs.Checksum.{checksum_from, checksum_of}
use Rattle.octets.specs.Numbers.{number_from, number, bytes_of}
use Rattle.octets.proofs.ExclusiveOr.{checksum_append, checksum_last}
use Rattle.octets.proofs.Numbers.{number_from_append}

-- ---- the checksum of the bytes up to index i
module _ (s : List ℕ) where
  pub sum_none : checksum_of [] ≡ 0
  unfolding checksum_from
  sum_none = refl

  pub sum_next : (i : ℕ) → i < length s → checksum_of (take (i + 1) s) ≡ bit_xor (checksum_of (take i s)) (get_or s i 0)
  sum_next i l = rw add-one (ap checksum_of (take-suc s i 0 l) ∙ checksum_last 0 (take i s) (get_or s i 0))

  -- by k bytes at once
  pub sum_part : (i k : ℕ) → checksum_of (take (i + k) s) ≡ bit_xor (checksum_of (take i s)) (checksum_of (take k (drop i s)))
  sum_part i k = ap checksum_of (take-add i k s) ∙ checksum_append (take i s) (take k (drop i s))

  -- a byte of those that a block left
  pub sum_left : (from i n : ℕ) → from + i < length s → i < n → checksum_of (take (from + i + 1) s) ≡ bit_xor (checksum_of (take (from + i) s)) (get_or (take n (drop from s)) i 0)
  sum_left from i n l k = sum_next (from + i) l ∙ ap (bit_xor (checksum_of (take (from + i) s))) (sym (get_or-take n (drop from s) i 0 k ∙ get_or-drop from s i 0))

pub ruleset summing = (sum_none, sum_next, take_all)

-- ---- how bytes begin, from index i on
module _ (t s : List ℕ) (i : ℕ) where
  pub fit_end : length t ≤ i → fit (drop i t) (drop i s) ≡ Whole
  unfolding fit
  fit_end l = rw (drop_of_length-le t l)

  pub fit_short : i < length t → length s ≤ i → fit (drop i t) (drop i s) ≡ Part
  unfolding fit
  fit_short l k = rw (drop-cons t i 0 l, drop_of_length-le s k)

  pub fit_other : i < length t → i < length s → (get_or s i 0 ≡ get_or t i 0 → ⊥) → fit (drop i t) (drop i s) ≡ Bad
  unfolding fit
  fit_other l k n = rw (drop-cons t i 0 l, drop-cons s i 0 k, ne_eqb (get_or s i 0) (get_or t i 0) n)

  pub fit_same : i < length t → i < length s → get_or s i 0 ≡ get_or t i 0 → fit (drop i t) (drop i s) ≡ fit (drop (i + 1) t) (drop (i + 1) s)
  unfolding fit
  fit_same l k e = rw (add-one, drop-cons t i 0 l, drop-cons s i 0 k, eq-eqb (get_or s i 0) (get_or t i 0) e)

  pub common_end : length t ≤ i → common (drop i t) (drop i s) ≡ 0
  unfolding common
  common_end l = rw (drop_of_length-le t l)

  pub common_short : i < length t → length s ≤ i → common (drop i t) (drop i s) ≡ 0
  unfolding common
  common_short l k = rw (drop-cons t i 0 l, drop_of_length-le s k)

  pub common_other : i < length t → i < length s → (get_or s i 0 ≡ get_or t i 0 → ⊥) → common (drop i t) (drop i s) ≡ 0
  unfolding common
  common_other l k n = rw (drop-cons t i 0 l, drop-cons s i 0 k, ne_eqb (get_or s i 0) (get_or t i 0) n)

  pub common_same : i < length t → i < length s → get_or s i 0 ≡ get_or t i 0 → common (drop i t) (drop i s) ≡ suc (common (drop (i + 1) t) (drop (i + 1) s))
  unfolding common
  common_same l k e = rw (add-one, drop-cons t i 0 l, drop-cons s i 0 k, eq-eqb (get_or s i 0) (get_or t i 0) e)

pub ruleset fitting = (fit_end, fit_short, fit_other, fit_same)

pub ruleset common_counts = (common_end, common_short, common_other, common_same)

-- ---- the number of the bytes up to index i
module _ (s : List ℕ) where
  pub number_none : number [] ≡ 0
  unfolding number_from
  number_none = refl

  pub number_next : (i : ℕ) → i < length s → number (take (i + 1) s) ≡ number (take i s) * 256 + get_or s i 0
  unfolding number_from
  number_next i l = rw add-one (ap number (take-suc s i 0 l) ∙ number_from_append 0 (take i s) (get_or s i 0 ∷ []))

pub ruleset numbering = (number_none, number_next)

-- ---- the bytes of a number from index i on
module _ (s : List ℕ) (i y : ℕ) where
  pub written_all : i ≤ 0 → bytes_of i y ++ drop i s ≡ s
  unfolding bytes_of
  written_all l = let z : i ≡ 0 = omega arith in rw z refl

  pub written_next : 0 < i → i ≤ length s → bytes_of (i - 1) (y / 256) ++ drop (i - 1) (set s (i - 1) (y % 256)) ≡ bytes_of i y ++ drop i s
  unfolding bytes_of
  written_next l k =
      let z : suc (i - 1) ≡ i = omega arith in
      step (i - 1) (omega arith) ∙ ap (λ n. bytes_of n y ++ drop n s) z
    where
      step : (j : ℕ) → j < length s → bytes_of j (y / 256) ++ drop j (set s j (y % 256)) ≡ bytes_of (suc j) y ++ drop (suc j) s
      step j l =
          let v = y % 256 in
          ap (λ r. bytes_of j (y / 256) ++ r) (drop-cons (set s j v) j 0 (simp length-set l) ∙ ap₂ (λ x r. x ∷ r) (get_or-set_same s j v 0 l) (drop-set-lt (suc j) s j v (omega arith)))
          ∙ sym (append_snoc (bytes_of j (y / 256)) v (drop (suc j) s))

pub ruleset writing = (written_all, written_next)
