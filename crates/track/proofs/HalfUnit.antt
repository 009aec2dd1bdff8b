-- A fraction that is rounded to the nearest float is off by half a unit of the last place at most: by 1 / 2 ^ (prec + 1 - w), below 2 ^ w.
-- And the quotient of two floats that are whole numbers is the fraction of those, rounded. Assumes nothing.
use mathlib.Core.Path.{◌≡◌, refl, sym, ap, ◌∙◌, subst}
use mathlib.Core.Bool.{Bool, true, false, not, cond, true≢false}
use Prim.Native.Nat.{ℕ, zero, suc, ◌+◌, ◌-◌, ◌*◌, ◌/◌, ◌%◌, ◌^◌, ◌≤◌, ◌<◌, compare, Ordering}
use native.Mathlib.Nat.{lt_irrefl, le_trans, le_of_eq, lt_of_le_of_lt, one-mul, mul-one, mul_comm, mul_assoc, mul_left_comm, mul_right_comm, mul-pos, add_comm, add-mul, mul-sub, suc-mul, mul-le-mul_left, mul-le-mul_right, mul-lt-mul_of_pos_right, le_of_mul-le-mul_right, mod-lt, div-add-mod', div-lt_iff_lt-mul, div-div-eq-div-mul, pow-suc}
use native.Mathlib.Omega.{arith}
use lib.Dec.{T, ltb, is_le, compare_is_eq, eqb, leb→le, nleb→lt, eqb→eq, eqb_refl, not_T, lit≤}
use borrow.Author.Tests.{ltb-true, ltb-false}
use lib.Arith.{lt_of_le-ne}
use lib.Pow.{pow-add, pow_pos, pow_mono, pow-lt}
use lib.Ieee.{Float, nan, inf, fin, Format, binary32, binary64, prec, emax, low, unlike, up, down, size, nearest, round, div}
use lib.Ieee.Digits.{size-le}
use lib.Ieee.Fits.{nearest-le, kept-lt, round_is, down_pos}
use lib.Ieee.Exact.{HasValue, units_val}
use lib.Ieee.Nearest.{closest}
use lib.Ieee.Order.{drop, kept}
use lib.Ieee.Scale.{grid, overflow, round_same}
use lib.Ieee.Bits.{cond_no}
use lib.Ieee.Positive.{through, first_pos}
use lib.IntN.{ℤ, pos, negsuc, nat_abs, sub_ℕ, ◌-ℤ◌}
use Rattle.track.specs.Row.{with_sign, Within}

-- |x - y|: ℕ's subtraction stops at 0, so one of the two is 0
abbrev pub gap : ℕ → ℕ → ℕ
gap x y = (x - y) + (y - x)

-- `Within`, by sign and size: x is finite, has the sign s, and in size is within a / b of n / c
abbrev pub Near : Float → Bool → ℕ → ℕ → ℕ → ℕ → Type 0
Near nan s n c a b = ⊥
Near (inf t) s n c a b = ⊥
Near (fin t m e) s n c a b = (t ≡ s) × (gap (m * up e * c) (n * down e) * b ≤ a * c * down e)

-- ---- the nearest whole number to a / b is off by a half at most
abbrev Cmp : Ordering → ℕ → ℕ → Type 0
Cmp Ordering.lt a b = a < b
Cmp Ordering.eq a b = a ≡ b
Cmp Ordering.gt a b = b < a

cmp : (a b : ℕ) → Cmp (compare a b) a b
cmp a b = go (compare a b) (leb→le a b) (nleb→lt a b) (eqb→eq a b) (λ (e : a ≡ b). subst (λ (x : ℕ). T (eqb a x)) e (eqb_refl a))
  where
    go : (o : Ordering) → (T (is_le o) → a ≤ b) → (T (not (is_le o)) → b < a) → (T (compare_is_eq o) → a ≡ b) → (a ≡ b → T (compare_is_eq o)) → Cmp o a b
    go Ordering.lt h k e n = lt_of_le-ne (h tt) n
    go Ordering.eq h k e n = e tt
    go Ordering.gt h k e n = k tt

-- y lies within d of x
record Off (x y d : ℕ) : Type 0 where
  hi : x ≤ y + d
  lo : y ≤ x + d

tie : (r q b p : ℕ) → r * 2 ≡ b → p ≡ (q + q % 2) * b → Off (p * 2) (q * b * 2 + r * 2) b
tie r q b p e h = go (q % 2) (small q) h
  where
    small : (x : ℕ) → x % 2 < 2
    small x = omega arith

    go : (z : ℕ) → z < 2 → p ≡ (q + z) * b → Off (p * 2) (q * b * 2 + r * 2) b
    go zero l h =
        let k : p ≡ q * b = h ∙ ap (λ (x : ℕ). x * b) (plain q) in record { hi = omega arith; lo = omega arith }
      where
        plain : (x : ℕ) → x + 0 ≡ x
        plain x = omega arith
    go (suc zero) l h =
        let k : p ≡ q * b + 1 * b = h ∙ add-mul q 1 b in
        let j : 1 * b ≡ b = omega arith in record { hi = omega arith; lo = omega arith }
    go (suc (suc z)) l h = absurd (over z l)
      where
        over : (x : ℕ) → suc (suc x) < 2 → ⊥
        over x g = omega arith

off : (q r b : ℕ) (o : Ordering) → Cmp o (r * 2) b → r < b → Off (nearest q o * b * 2) (q * b * 2 + r * 2) b
off q r b Ordering.lt h l = record { hi = omega arith; lo = omega arith }
off q r b Ordering.eq h l = tie r q b ((q + q % 2) * b) h refl
off q r b Ordering.gt h l = let k : suc q * b ≡ q * b + b = suc-mul q b in record { hi = omega arith; lo = omega arith }

closest_off : (a b : ℕ) → 0 < b → Off (closest a b * b * 2) (a * 2) b
closest_off a b B =
    subst (λ (x : ℕ). Off (closest a b * b * 2) x b) (sym (add-mul (a / b * b) (a % b) 2) ∙ ap (λ (x : ℕ). x * 2) (div-add-mod' a b))
    (off (a / b) (a % b) b (compare (a % b * 2) b) (cmp (a % b * 2) b) (mod-lt a B))

-- ---- `Off`, scaled up and down
wider : {x y d x' d' : ℕ} → Off x y d → x ≡ x' → d ≤ d' → Off x' y d'
wider o e h = record { hi = omega arith; lo = omega arith }

scaled : {x y d : ℕ} (k : ℕ) → Off x y d → Off (x * k) (y * k) (d * k)
scaled {x} {y} {d} k o = record {
  hi = le_trans (mul-le-mul_right k o.hi) (le_of_eq (add-mul y d k));
  lo = le_trans (mul-le-mul_right k o.lo) (le_of_eq (add-mul x d k));
}

unscaled : {x y d : ℕ} (k : ℕ) → 0 < k → Off (x * k) (y * k) (d * k) → Off x y d
unscaled {x} {y} {d} k K o = record {
  hi = le_of_mul-le-mul_right (le_trans o.hi (le_of_eq (sym (add-mul y d k)))) K;
  lo = le_of_mul-le-mul_right (le_trans o.lo (le_of_eq (sym (add-mul x d k)))) K;
}

sub_mul : (x y k : ℕ) → (x - y) * k ≡ x * k - y * k
sub_mul x y k = simp mul_comm (simp mul_comm at (mul-sub k x y))

gap_of : (x y b d : ℕ) → Off (x * b) (y * b) d → gap x y * b ≤ d
gap_of x y b d o = le_trans (le_of_eq (add-mul (x - y) (y - x) b)) (go ((x - y) * b) ((y - x) * b) (sub_mul x y b) (sub_mul y x b))
  where
    go : (g h : ℕ) → g ≡ x * b - y * b → h ≡ y * b - x * b → g + h ≤ d
    go g h p q = omega arith

-- ---- what `round` keeps of n / c, in units of the format's smallest value
kept_le : (p n c : ℕ) → kept p n c ≤ 2 ^ p
kept_le p n c =
    let k = drop p n c in
    let u = c * 2 ^ k in
    le_trans (nearest-le (n / u) (compare (n % u * 2) u)) (subst (λ (x : ℕ). x < 2 ^ p) (div-div-eq-div-mul n c (2 ^ k)) (kept-lt p (n / c)))

spare : (z p t : ℕ) → z ≤ p + t → z - p ≤ t
spare z p t h = omega arith

module _ (p n c t : ℕ) (small : n / c < 2 ^ (p + t)) where
  drop_le : drop p n c ≤ t
  drop_le = spare (size (n / c)) p t (size-le (n / c) (p + t) small)

  grid_le : kept p n c * 2 ^ drop p n c ≤ 2 ^ (p + t)
  grid_le =
      le_trans (mul-le-mul_right (2 ^ drop p n c) (kept_le p n c))
      (le_trans (mul-le-mul_left (2 ^ p) (pow_mono drop_le)) (le_of_eq (sym (pow-add 2 p t))))

  grid_off : 0 < c → Off (kept p n c * 2 ^ drop p n c * c * 2) (n * 2) (c * 2 ^ t)
  grid_off C =
      let k = drop p n c in
      let u = c * 2 ^ k in
      wider (closest_off n u (mul-pos C (pow_pos k)))
      (ap (λ (x : ℕ). x * 2) (ap (λ (x : ℕ). closest n u * x) (mul_comm c (2 ^ k)) ∙ sym (mul_assoc (closest n u) (2 ^ k) c)))
      (mul-le-mul_left c (pow_mono drop_le))

round_val : (f : Format) (s : Bool) (a c : ℕ) → grid f a c < overflow f → HasValue (round f s a c) s (grid f a c) (2 ^ low f)
round_val f s a c h =
    subst (λ (z : Float). HasValue z s (grid f a c) (2 ^ low f)) (sym (round_is f s a c))
    (units_val f s (kept (prec f) (a * 2 ^ low f) c) (drop (prec f) (a * 2 ^ low f) c) h)

-- x / d is g / l, and g is off n * l / c by half of t: so x / d is off n / c by 1 / j, where j * t is 2 * l
cancel : (x d n c g l t j : ℕ) → x * l ≡ g * d → Off (g * c * 2) (n * l * 2) (c * t) → l * 2 ≡ t * j → 0 < t → Off (x * c * j) (n * d * j) (c * d)
cancel x d n c g l t j v o e P =
    let a : g * c * 2 * d ≡ g * d * (c * 2) = simp (mul_assoc, mul_comm, mul_left_comm) in
    let b : x * l * (c * 2) ≡ x * c * (l * 2) = simp (mul_assoc, mul_comm, mul_left_comm) in
    let r : x * c * (t * j) ≡ x * c * j * t = simp (mul_assoc, mul_comm) in
    let left : g * c * 2 * d ≡ x * c * j * t = a ∙ ap (λ (z : ℕ). z * (c * 2)) (sym v) ∙ b ∙ ap (λ (z : ℕ). x * c * z) e ∙ r in
    let a' : n * l * 2 * d ≡ n * d * (l * 2) = simp (mul_assoc, mul_comm, mul_left_comm) in
    let r' : n * d * (t * j) ≡ n * d * j * t = simp (mul_assoc, mul_comm) in
    let right : n * l * 2 * d ≡ n * d * j * t = a' ∙ ap (λ (z : ℕ). n * d * z) e ∙ r' in
    unscaled t P (rw (left, right, mul_right_comm c t d) at (scaled d o))

near_of : (x : Float) (s : Bool) (n c g l t j : ℕ) → HasValue x s g l → Off (g * c * 2) (n * l * 2) (c * t) → l * 2 ≡ t * j → 0 < t → Near x s n c 1 j
near_of nan s n c g l t j v o e P = v
near_of (inf u) s n c g l t j v o e P = v
near_of (fin u m d) s n c g l t j v o e P =
    (v.0, le_trans (gap_of (m * up d * c) (n * down d) j (c * down d) (cancel (m * up d) (down d) n c g l t j v.1 o e P)) (le_of_eq (ap (λ (z : ℕ). z * down d) (sym (one-mul c)))))

-- ---- of a format the proofs use two facts more: it has more digits below 1 than it keeps, and it reaches further up than it keeps digits
below_one : (f : Format) → prec f ≤ low f
below_one binary32 = lit≤ tt
below_one binary64 = lit≤ tt

above_one : (f : Format) → suc (prec f) ≤ emax f
above_one binary32 = lit≤ tt
above_one binary64 = lit≤ tt

module _ (p l x w j : ℕ) (e : w + j ≡ suc p) (h : p ≤ l) (k : suc p ≤ x) where
  place : p + (suc l - j) ≡ w + l
  place = omega arith

  halves : suc l ≡ suc l - j + j
  halves = omega arith

  fine : p + (suc l - j) < l + suc x
  fine = omega arith

-- A fraction below 2 ^ w, rounded, is off by half a unit of the last place at most: by 1 / 2 ^ j, with j = prec + 1 - w.
pub round_near : (f : Format) (s : Bool) (n c w j : ℕ) → w + j ≡ suc (prec f) → 0 < c → n < 2 ^ w * c → Near (round f s n c) s n c 1 (2 ^ j)
round_near f s n c w j e C h =
    let p = prec f in
    let l = low f in
    let t = suc l - j in
    let small : n * 2 ^ l / c < 2 ^ (p + t) =
    (div-lt_iff_lt-mul C).1
    (subst (λ (z : ℕ). n * 2 ^ l < z)
    (mul_right_comm (2 ^ w) c (2 ^ l) ∙ ap (λ (z : ℕ). z * c) (sym (pow-add 2 w l) ∙ ap (λ (z : ℕ). 2 ^ z) (sym (place p l (emax f) w j e (below_one f) (above_one f)))))
    (mul-lt-mul_of_pos_right h (pow_pos l))) in
    near_of (round f s n c) s n c (grid f n c) (2 ^ l) (2 ^ t) (2 ^ j)
    (round_val f s n c (lt_of_le_of_lt (grid_le p (n * 2 ^ l) c t small) (pow-lt (fine p l (emax f) w j e (below_one f) (above_one f)))))
    (grid_off p (n * 2 ^ l) c t small C)
    (sym (pow-suc 2 l) ∙ ap (λ (z : ℕ). 2 ^ z) (halves p l (emax f) w j e (below_one f) (above_one f)) ∙ pow-add 2 t j)
    (pow_pos t)

-- a bound a / b gives any a' / b' that is no less
pub weaker : (x : Float) (s : Bool) (n c a b a' b' : ℕ) → 0 < b → a * b' ≤ a' * b → Near x s n c a b → Near x s n c a' b'
weaker nan s n c a b a' b' B h v = v
weaker (inf t) s n c a b a' b' B h v = v
weaker (fin t m e) s n c a b a' b' B h v =
    (v.0, le_trans (through (gap (m * up e * c) (n * down e)) a a' (c * down e) b b' B (le_trans v.1 (le_of_eq (mul_assoc a c (down e)))) h) (le_of_eq (sym (mul_assoc a' c (down e)))))

-- ---- n / c, as a quotient of two floats that are n and c
unlike_false : (t : Bool) → unlike t false ≡ t
unlike_false true = refl
unlike_false false = refl

pub quotient : (f : Format) (x y : Float) (s : Bool) (n c : ℕ) → 0 < c → HasValue x s n 1 → HasValue y false c 1 → div f x y ≡ round f s n c
unfolding div
quotient f nan y s n c C v w = absurd v
quotient f (inf t) y s n c C v w = absurd v
quotient f (fin t m e) nan s n c C v w = absurd w
quotient f (fin t m e) (inf u) s n c C v w = absurd w
quotient f (fin t m e) (fin true k d) s n c C v w = absurd (true≢false w.0)
quotient f (fin t m e) (fin false k d) s n c C v w =
    let x : m * up e ≡ n * down e = sym (mul-one (m * up e)) ∙ v.1 in
    let y : k * up d ≡ c * down d = sym (mul-one (k * up d)) ∙ w.1 in
    let Y : 0 < k * up d = subst (λ (z : ℕ). 0 < z) (sym y) (mul-pos C (down_pos d)) in
    let a = m * up e * down d in
    let b = k * up d * down e in
    let swap : n * down e * down d * c ≡ n * (c * down d * down e) = simp (mul_assoc, mul_comm, mul_left_comm) in
    let same : a * c ≡ n * b = ap (λ (z : ℕ). z * down d * c) x ∙ swap ∙ ap (λ (z : ℕ). n * (z * down e)) (sym y) in
    cond_no (eqb k 0) (cond (eqb m 0) nan (inf (unlike t false))) (round f (unlike t false) a b)
    (not_T (eqb k 0) (λ (z : T (eqb k 0)). lt_irrefl 0 (subst (λ (q : ℕ). 0 < q) (eqb→eq k 0 z) (first_pos k (up d) Y))))
    ∙ ap (λ (z : Bool). round f z a b) (unlike_false t ∙ v.0)
    ∙ round_same f s a b n c (mul-pos Y (down_pos e)) C same

-- ---- `Within`, from its sign and its size
abs_sub : (x y : ℕ) → nat_abs (sub_ℕ x y) ≡ gap x y
abs_sub x y = go (ltb x y) (ltb-true x y) (ltb-false x y)
  where
    go : (b : Bool) → (b ≡ true → x < y) → (b ≡ false → y ≤ x) → nat_abs (cond b (negsuc (y - suc x)) (pos (x - y))) ≡ gap x y
    go true p q = let h = p refl in omega arith
    go false p q = let h = q refl in omega arith

abs_gap : (s : Bool) (x y : ℕ) → nat_abs (with_sign s x -ℤ with_sign s y) ≡ gap x y
abs_gap false x zero = omega arith
abs_gap false x (suc y) = abs_sub x (suc y)
abs_gap true zero zero = omega arith
abs_gap true zero (suc y) = omega arith
abs_gap true (suc x) zero = abs_sub 0 (suc x) ∙ add_comm (0 - suc x) (suc x - 0)
abs_gap true (suc x) (suc y) = abs_sub (suc y) (suc x) ∙ add_comm (suc y - suc x) (suc x - suc y)

by_sign : (t s : Bool) (x y b d : ℕ) → t ≡ s → gap x y * b ≤ d → nat_abs (with_sign t x -ℤ with_sign s y) * b ≤ d
by_sign t s x y b d e h =
    subst (λ (u : Bool). nat_abs (with_sign u x -ℤ with_sign s y) * b ≤ d) (sym e) (le_trans (le_of_eq (ap (λ (z : ℕ). z * b) (abs_gap s x y))) h)

abbrev pub negative : ℤ → Bool
negative (pos n) = false
negative (negsuc n) = true

pub within : (x : Float) (z : ℤ) (c a b : ℕ) → Near x (negative z) (nat_abs z) c a b → Within x z c a b
within nan z c a b v = v
within (inf t) z c a b v = v
within (fin t m e) (pos n) c a b v = by_sign t false (m * up e * c) (n * down e) b (a * c * down e) v.0 v.1
within (fin t m e) (negsuc n) c a b v = by_sign t true (m * up e * c) (suc n * down e) b (a * c * down e) v.0 v.1
