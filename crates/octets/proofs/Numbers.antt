-- Numbers in bytes: there and back, at every width. Assumes nothing.
use Prim.Native.Nat.{ℕ, zero, suc, ◌+◌, ◌*◌, ◌/◌, ◌%◌, ◌^◌, ◌≤◌, ◌<◌}
use mathlib.Core.Path.{◌≡◌, refl, sym, ap, ◌∙◌}
use mathlib.Core.List.{List, [], ◌∷◌, ◌++◌, append_assoc, append-nil}
use native.Mathlib.Omega.{arith}
use native.Mathlib.Nat.{pow-suc, div-lt_iff_lt-mul, mul-le-mul_right, mul_assoc, mul_comm, lt_of_lt_of_le, le_trans, le_of_eq, add-zero}
use native.Mathlib.Nat.{mod-eq_of_lt, pow-le-pow_right}
use mathlib.Core.Bool.{Bool, true, false}
use lib.Dec.{ltb}
use borrow.Author.Tests.{ltb-true, ltb-false}
use lib.Seq.{length-take-le, get_or-take, get_or-drop}
use lib.ListN.{length, get_or, drop, length-append, length-drop, length-take, get_or-eq_default}
use Rattle.octets.specs.Numbers.{number_from, number, bytes_of, Bytes, number_at}
use Rattle.octets.specs.Parts.{part}

pub length_bytes_of : (k x : ℕ) → length (bytes_of k x) ≡ k
unfolding bytes_of
length_bytes_of zero x = refl
length_bytes_of (suc k) x = omega (arith, length-append (bytes_of k (x / 256)) (x % 256 ∷ []), length_bytes_of k (x / 256))

pub number_from_append : (a : ℕ) (xs ys : List ℕ) → number_from a (xs ++ ys) ≡ number_from (number_from a xs) ys
unfolding number_from
number_from_append a [] ys = refl
number_from_append a (x ∷ xs) ys = number_from_append (a * 256 + x) xs ys

-- a number that fits its bytes is written, and read back
pub number_bytes_of : (k x : ℕ) → x < 256 ^ k → number (bytes_of k x) ≡ x
unfolding bytes_of number_from
number_bytes_of zero x h = omega arith
number_bytes_of (suc k) x h =
    number_from_append 0 (bytes_of k (x / 256)) (x % 256 ∷ [])
    ∙ ap (λ n. n * 256 + x % 256) (number_bytes_of k (x / 256) ((div-lt_iff_lt-mul (omega arith)).1 (rw pow-suc at h)))
    ∙ omega arith

-- bytes are read as a number, and written back
one : (p : List ℕ) (n a x : ℕ) → x < 256 → bytes_of n a ≡ p → bytes_of (suc n) (a * 256 + x) ≡ p ++ (x ∷ [])
unfolding bytes_of
one p n a x l e =
    let q : (a * 256 + x) / 256 ≡ a = omega arith in
    let r : (a * 256 + x) % 256 ≡ x = omega arith in
    rw (q, r, e)

back : (p b : List ℕ) (n a : ℕ) → bytes_of n a ≡ p → Bytes b → bytes_of (n + length b) (number_from a b) ≡ p ++ b
unfolding number_from
back p [] n a e h = ap (λ k. bytes_of k a) (add-zero n) ∙ e ∙ sym (append-nil p)
back p (x ∷ b) n a e h =
    let z : n + suc (length b) ≡ suc n + length b = omega arith in
    ap (λ k. bytes_of k (number_from (a * 256 + x) b)) z ∙ back (p ++ (x ∷ [])) b (suc n) (a * 256 + x) (one p n a x (h 0) e) (λ i. h (suc i)) ∙ append_assoc p (x ∷ []) b

pub bytes_of_number : (b : List ℕ) (k : ℕ) → length b ≡ k → Bytes b → bytes_of k (number b) ≡ b
unfolding bytes_of
bytes_of_number b k e h = let z : k ≡ 0 + length b = omega arith in ap (λ k. bytes_of k (number b)) z ∙ back [] b 0 0 refl h

-- a number fits its bytes
bound : (b : List ℕ) (a : ℕ) → Bytes b → number_from a b < suc a * 256 ^ length b
unfolding number_from
bound [] a h = omega arith
bound (x ∷ b) a h =
    let l : x < 256 = h 0 in
    let k : suc (a * 256 + x) ≤ suc a * 256 = omega arith in
    lt_of_lt_of_le (bound b (a * 256 + x) (λ i. h (suc i)))
    (le_trans (mul-le-mul_right (256 ^ length b) k) (le_of_eq (mul_assoc (suc a) 256 (256 ^ length b) ∙ ap (λ z. suc a * z) (mul_comm 256 (256 ^ length b) ∙ sym (pow-suc 256 (length b))))))

pub number_fits : (b : List ℕ) → Bytes b → number b < 256 ^ length b
number_fits b h = let z : 1 * 256 ^ length b ≡ 256 ^ length b = omega arith in rw z at (bound b 0 h)

pub part_bytes : (s : List ℕ) (at k : ℕ) → Bytes s → Bytes (part at k s)
part_bytes s at k h i = go (ltb i k) refl
  where
    go : (t : Bool) → ltb i k ≡ t → get_or (part at k s) i 0 < 256
    go true e = rw (get_or-take k (drop at s) i 0 (ltb-true i k e), get_or-drop at s i 0) (h (at + i))
    go false e = rw (get_or-eq_default (part at k s) 0 {n = i} (omega (arith, length-take k (drop at s), ltb-false i k e))) (omega arith)

-- a field of at most eight bytes
module _ (s : List ℕ) (at k : ℕ) (h : Bytes s) (room : at + k ≤ length s) where
  pub part_long : length (part at k s) ≡ k
  part_long = length-take-le k (drop at s) (omega (arith, length-drop at s))

  pub field_fits : number_at at k s < 256 ^ k
  field_fits = rw part_long at (number_fits (part at k s) (part_bytes s at k h))

  pub field_whole : k ≤ 8 → number_at at k s % 2 ^ 64 ≡ number_at at k s
  field_whole l = mod-eq_of_lt (lt_of_lt_of_le field_fits (pow-le-pow_right {n = 256} (omega arith) l))
