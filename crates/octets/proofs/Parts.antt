-- Parts of a list: put in the middle, written over the front. Assumes nothing.
use Prim.Native.Nat.{ℕ, suc, ◌+◌, ◌-◌, ◌≤◌, ◌<◌}
use mathlib.Core.Path.{◌≡◌, refl, sym, ap, ap₂, ◌∙◌}
use mathlib.Core.List.{List, [], ◌∷◌, ◌++◌, append_assoc, append-nil}
use native.Mathlib.Omega.{arith}
use native.Mathlib.Nat.{zero-add, add-zero}
use native.Mathlib.Numerals.{add-one}
use lib.ListN.{length, get_or, set, take, drop, length-append, length-drop, drop_of_length-le, take-append-drop, get_or-append}
use lib.Seq.{take_at, drop-append-add, drop-drop, drop-cons, set_at, length-take-le, get_or-take, get_or-drop, get_or-append-add}
use Rattle.std.proofs.lemmas.List.{drop-take}
use Rattle.octets.specs.Parts.{over, put, part}

pub drop_take : (a n : ℕ) (l : List ℕ) → drop a (take (a + n) l) ≡ take n (drop a l)
drop_take = drop-take

-- what a lent part leaves, as a put
pub mid_put : (a k : ℕ) (s ys : List ℕ) → length ys ≡ k → take a s ++ (ys ++ drop k (drop a s)) ≡ put a ys s
mid_put a k s ys e = ap (λ r. take a s ++ (ys ++ r)) (drop-drop k a s ∙ ap (λ n. drop (a + n) s) (sym e))

pub length_put : (a : ℕ) (ys s : List ℕ) → a + length ys ≤ length s → length (put a ys s) ≡ length s
length_put a ys s l =
    omega (arith, length-append (take a s) (ys ++ drop (a + length ys) s), length-append ys (drop (a + length ys) s), length-take-le a s (omega arith), length-drop (a + length ys) s)

-- ---- put one behind the other, at every width
pub put_none : (a : ℕ) (s : List ℕ) → put a [] s ≡ s
put_none a s = ap (λ n. take a s ++ drop n s) (add-zero a) ∙ take-append-drop a s

pub put_next : (a : ℕ) (xs ys s : List ℕ) → a ≤ length s → put (a + length xs) ys (put a xs s) ≡ put a (xs ++ ys) s
put_next a xs ys s l =
    let front = take a s ++ xs in
    let rest = drop (a + length xs) s in
    let long : length front ≡ a + length xs = omega (arith, length-append (take a s) xs, length-take-le a s l) in
    let behind : a + length xs + length ys ≡ a + length (xs ++ ys) = omega (arith, length-append xs ys) in
    ap (put (a + length xs) ys) (sym (append_assoc (take a s) xs rest))
    ∙ ap₂ (λ x y. x ++ (ys ++ y)) (take_at front rest (a + length xs) long)
    (ap (λ n. drop (n + length ys) (front ++ rest)) (sym long) ∙ drop-append-add front rest (length ys) ∙ drop-drop (length ys) (a + length xs) s)
    ∙ append_assoc (take a s) xs (ys ++ drop (a + length xs + length ys) s)
    ∙ ap (λ r. take a s ++ r) (sym (append_assoc xs ys (drop (a + length xs + length ys) s)) ∙ ap (λ n. (xs ++ ys) ++ drop n s) behind)

-- one number, and the next behind those that were put
pub put_set : (a y : ℕ) (s : List ℕ) → a < length s → set s a y ≡ put a (y ∷ []) s
put_set a y s l =
    let long : length (take a s) ≡ a = length-take-le a s (omega arith) in
    ap (λ r. set r a y) (sym (take-append-drop a s) ∙ ap (λ r. take a s ++ r) (drop-cons s a 0 l))
    ∙ set_at (take a s) (get_or s a 0) (drop (suc a) s) y a long
    ∙ ap (λ n. take a s ++ (y ∷ drop n s)) (sym (add-one a))

pub put_set_next : (a y : ℕ) (xs s : List ℕ) → a + length xs < length s → set (put a xs s) (a + length xs) y ≡ put a (xs ++ (y ∷ [])) s
put_set_next a y xs s l =
    put_set (a + length xs) y (put a xs s) (omega (arith, length_put a xs s (omega arith))) ∙ put_next a xs (y ∷ []) s (omega arith)

-- the next bytes behind what is written over the front
over_next : (a b s : List ℕ) (p : ℕ) → length a ≡ p → put p b (over a s) ≡ over (a ++ b) s
over_next a b s p e =
    ap₂ (λ n r. put n b (a ++ drop r s)) (sym e ∙ sym (zero-add (length a))) (sym (zero-add (length a)))
    ∙ put_next 0 a b s (omega arith)
    ∙ ap (λ n. (a ++ b) ++ drop n s) (zero-add (length (a ++ b)))

-- `t` is `s` with the p bytes of `a` written over its front: what fields that are written one behind the other come to
pub record Laid (s a t : List ℕ) (p : ℕ) : Type 0 where
  pub is : t ≡ over a s
  pub long : length a ≡ p

pub laid_none : (s : List ℕ) → Laid s [] s 0
laid_none s = record { is = refl; long = refl }

pub laid_next : {s a t : List ℕ} {p : ℕ} → Laid s a t p → (x u : List ℕ) (k : ℕ) → length x ≡ k → u ≡ put p x t → Laid s (a ++ x) u (p + k)
laid_next {s} {a} {t} {p} l x u k e q =
    record { is = q ∙ ap (put p x) l.is ∙ over_next a x s p l.long; long = omega (arith, length-append a x, l.long) }

pub length_over : (a s : List ℕ) → length a ≤ length s → length (over a s) ≡ length s
length_over a s l = omega (arith, length-append a (drop (length a) s), length-drop (length a) s)

pub laid_set : {s a t : List ℕ} {p : ℕ} → Laid s a t p → (v : ℕ) → p < length s → Laid s (a ++ (v ∷ [])) (set t p v) (p + 1)
laid_set {s} {a} {t} {p} l v h =
    let long : length t ≡ length s = ap length l.is ∙ length_over a s (omega (arith, l.long)) in
    laid_next l (v ∷ []) (set t p v) 1 refl (put_set p v t (omega arith))

pub over_all : (a s : List ℕ) → length a ≡ length s → over a s ≡ a
over_all a s e = ap (λ r. a ++ r) (drop_of_length-le s {i = length a} (omega arith)) ∙ append-nil a

-- as many bytes as there are: nothing of the old ones is left
pub laid_all : {s a t : List ℕ} {p : ℕ} → Laid s a t p → length s ≡ p → t ≡ a
laid_all {s} {a} l e = l.is ∙ over_all a s (l.long ∙ sym e)

pub part_length : (s : List ℕ) (at k : ℕ) → at + k ≤ length s → length (part at k s) ≡ k
part_length s at k l = length-take-le k (drop at s) (omega (arith, length-drop at s))

-- what stands before and behind what was put
pub put_before : (a i : ℕ) (ys s : List ℕ) → a ≤ length s → i < a → get_or (put a ys s) i 0 ≡ get_or s i 0
put_before a i ys s l h =
    get_or-append (take a s) (ys ++ drop (a + length ys) s) 0 i (omega (arith, length-take-le a s l)) ∙ get_or-take a s i 0 h

-- and what was put
pub put_there : (a i : ℕ) (ys s : List ℕ) → a ≤ length s → i < length ys → get_or (put a ys s) (a + i) 0 ≡ get_or ys i 0
put_there a i ys s l h =
    let r = drop (a + length ys) s in
    ap (λ n. get_or (put a ys s) (n + i) 0) (sym (length-take-le a s l)) ∙ get_or-append-add (take a s) (ys ++ r) i 0 ∙ get_or-append ys r 0 i h

pub put_behind : (a i : ℕ) (ys s : List ℕ) → a ≤ length s → a + length ys ≤ i → get_or (put a ys s) i 0 ≡ get_or s i 0
put_behind a i ys s l h =
    let k = i - (a + length ys) in
    let z : length (take a s) + (length ys + k) ≡ i = omega (arith, length-take-le a s l) in
    let y : a + length ys + k ≡ i = omega arith in
    let r = drop (a + length ys) s in
    ap (λ n. get_or (put a ys s) n 0) (sym z) ∙ get_or-append-add (take a s) (ys ++ r) (length ys + k) 0 ∙ get_or-append-add ys r k 0 ∙ get_or-drop (a + length ys) s k 0 ∙ ap (λ n. get_or s n 0) y
