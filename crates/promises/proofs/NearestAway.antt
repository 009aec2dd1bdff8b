-- `nearest` is no further than one half from the fraction, the further one from zero at one half; and nothing else is. Assumes nothing.
use Prim.Native.Nat.{ℕ, zero, suc, ◌+◌, ◌-◌, ◌*◌, ◌/◌, ◌≤◌, ◌<◌}
use mathlib.Core.Path.{◌≡◌, refl, sym, ap, ◌∙◌}
use mathlib.Core.Bool.{Bool, true, false, cond}
use native.Mathlib.Omega.{arith}
use native.Mathlib.Nat.{div-eq_of_lt-le, div-mul-le_self, lt-div-mul-add, zero-mul}
use lib.Dec.{ltb, eqb}
use lib.IntN.{ℤ, pos, negsuc, nat_abs, neg_ℤ, sub_ℕ, ◌-ℤ◌, ◌*ℤ◌}
use borrow.Author.Tests.{ltb-true, ltb-false, eqb-true, eqb-false}
use Rattle.novatel.specs.Rolls.{nearest}
use Rattle.promises.specs.Record.{NearestAway}

-- ---- sizes of differences
sub_size : (a b : ℕ) → nat_abs (sub_ℕ a b) ≡ (a - b) + (b - a)
sub_size a b = go (ltb a b) refl
  where
    go : (t : Bool) → ltb a b ≡ t → nat_abs (cond t (negsuc (b - suc a)) (pos (a - b))) ≡ (a - b) + (b - a)
    go true e = omega (arith, ltb-true a b e)
    go false e = omega (arith, ltb-false a b e)

both_above : (a b : ℕ) → nat_abs (pos a -ℤ pos b) ≡ (a - b) + (b - a)
both_above a zero = omega arith
both_above a (suc b) = sub_size a (suc b)

both_below : (a b : ℕ) → nat_abs (neg_ℤ (pos a) -ℤ neg_ℤ (pos b)) ≡ (a - b) + (b - a)
both_below zero zero = refl
both_below zero (suc b) = omega arith
both_below (suc a) zero = sub_size 0 (suc a) ∙ omega arith
both_below (suc a) (suc b) = sub_size (suc b) (suc a) ∙ omega arith

apart_below : (a b : ℕ) → nat_abs (pos a -ℤ neg_ℤ (pos b)) ≡ a + b
apart_below a zero = refl
apart_below a (suc b) = refl

apart_above : (a b : ℕ) → nat_abs (negsuc a -ℤ pos b) ≡ suc a + b
apart_above a zero = sub_size 0 (suc a) ∙ omega arith
apart_above a (suc b) = omega arith

size_neg : (a : ℕ) → nat_abs (neg_ℤ (pos a)) ≡ a
size_neg zero = refl
size_neg (suc a) = refl

neg_times : (q d : ℕ) → neg_ℤ (pos q) *ℤ pos d ≡ neg_ℤ (pos (q * d))
neg_times zero d = ap pos (zero-mul d) ∙ ap (λ n. neg_ℤ (pos n)) (sym (zero-mul d))
neg_times (suc q) d = refl

-- ---- of numbers that are not negative
-- q is the whole number nearest to m / d, halves up
record Near (m d q : ℕ) : Type 0 where
  pub low : q * d * 2 ≤ m * 2 + d
  pub high : m * 2 + d < q * d * 2 + d * 2

near_is : (m d : ℕ) → 0 < d → Near m d ((m * 2 + d) / (d * 2))
near_is m d l =
    let q = (m * 2 + d) / (d * 2) in
    record { low = omega (arith, div-mul-le_self (m * 2 + d) (d * 2)); high = omega (arith, lt-div-mul-add {a = m * 2 + d} {b = d * 2} (omega arith)) }

near_only : (m d q : ℕ) → Near m d q → (m * 2 + d) / (d * 2) ≡ q
near_only m d q n = div-eq_of_lt-le (d * 2) (omega (arith, n.low)) (omega (arith, n.high))

-- what lies within one half, and further from zero at one half
near_from : (m d q x : ℕ) → x ≡ (m - q * d) + (q * d - m) → x * 2 ≤ d → (x * 2 ≡ d → m < q * d) → 0 < d → Near m d q
near_from m d q x e c a l = record { low = omega arith; high = go (eqb (x * 2) d) refl }
  where
    go : (t : Bool) → eqb (x * 2) d ≡ t → m * 2 + d < q * d * 2 + d * 2
    go true h = let k = a (eqb-true (x * 2) d h) in omega arith
    go false h = let k = eqb-false (x * 2) d h in omega arith

-- ---- both ways
pub nearest_is : (n : ℤ) (d : ℕ) → 0 < d → NearestAway n d (nearest n d)
nearest_is (pos m) d l =
    let q = (m * 2 + d) / (d * 2) in
    let e = both_above m (q * d) in
    let n = near_is m d l in
    record { close = omega (arith, e, n.low, n.high); away = λ t. omega (arith, t, e, n.low, n.high) }
nearest_is (negsuc m) d l =
    let q = (suc m * 2 + d) / (d * 2) in
    let e : nat_abs (negsuc m -ℤ neg_ℤ (pos q) *ℤ pos d) ≡ (suc m - q * d) + (q * d - suc m) = ap (λ y. nat_abs (negsuc m -ℤ y)) (neg_times q d) ∙ both_below (suc m) (q * d) in
    let s : nat_abs (neg_ℤ (pos q) *ℤ pos d) ≡ q * d = ap nat_abs (neg_times q d) ∙ size_neg (q * d) in
    let n = near_is (suc m) d l in
    record { close = omega (arith, e, n.low, n.high); away = λ t. omega (arith, t, e, s, n.low, n.high) }

pub nearest_only : (n : ℤ) (d : ℕ) (k : ℤ) → 0 < d → NearestAway n d k → nearest n d ≡ k
nearest_only (pos m) d (pos j) l r = ap pos (near_only m d j (near_from m d j _ (both_above m (j * d)) r.close r.away l))
nearest_only (pos m) d (negsuc j) l r = absurd (omega (arith, apart_below m (suc j * d), r.close))
nearest_only (negsuc m) d (pos zero) l r =
    let e : nat_abs (negsuc m -ℤ pos (0 * d)) ≡ (suc m - 0 * d) + (0 * d - suc m) = apart_above m (0 * d) ∙ omega arith in
    ap (λ q. neg_ℤ (pos q)) (near_only (suc m) d 0 (near_from (suc m) d 0 _ e r.close r.away l))
nearest_only (negsuc m) d (pos (suc j)) l r = absurd (omega (arith, apart_above m (suc j * d), r.close))
nearest_only (negsuc m) d (negsuc j) l r =
    let away : nat_abs (negsuc m -ℤ neg_ℤ (pos (suc j * d))) * 2 ≡ d → suc m < suc j * d = λ t. omega (arith, r.away t, size_neg (suc j * d)) in
    ap (λ q. neg_ℤ (pos q)) (near_only (suc m) d (suc j) (near_from (suc m) d (suc j) _ (both_below (suc m) (suc j * d)) r.close away l))
