-- The bytes run through the checksum to divide a stream, a position at a time. Assumes nothing.
use Prim.Native.Nat.{ℕ, zero, suc, ◌+◌, ◌-◌, ◌<◌}
use mathlib.Core.Path.{◌≡◌, refl, sym, ap, ◌∙◌}
use mathlib.Core.Bool.{true}
use mathlib.Core.List.{List, [], ◌∷◌}
use native.Mathlib.Nat.{add-zero, zero-add}
use native.Mathlib.Omega.{arith}
use lib.ListN.{length, take, drop}
use lib.Seq.{length-take-le}
use Rattle.front.specs.Look.{tested}
use Rattle.division.specs.declared.Walked.{Walked}
use Rattle.division.specs.declared.Walked.TheVariants.{Message, Unsettled}
use Rattle.division.specs.Division.{stands, divide}
use Rattle.division.specs.Walk.{walk_of}
use Rattle.division.specs.Work.{tested_in, work_in, work_of}
use Rattle.division.proofs.DivideSteps.{divide_nil, divide_gap, divide_message}
use Rattle.division.proofs.PlainSteps.{Ends, walk_ends}
use Rattle.promises.proofs.Stands.{stands_le}

pub work_nil : work_of [] ≡ 0
unfolding work_of work_in tested_in
work_nil = ap (λ d. work_in d []) (divide_nil 0)

pub work_gap : (x : ℕ) (xs : List ℕ) → stands (x ∷ xs) ≡ 0 → work_of (x ∷ xs) ≡ tested (x ∷ xs) + work_of xs
unfolding work_of work_in tested_in
work_gap x xs e = ap (λ d. work_in d (x ∷ xs)) (divide_gap x xs 0 e) ∙ go (walk_of true xs 0 0) (walk_ends xs 0 0)
  where
    go : (w : Walked) → Ends xs 0 w → work_in (divide xs 1) (x ∷ xs) ≡ tested (x ∷ xs) + work_in (divide xs 0) xs
    go (Message k n t) f =
        let m = take n (drop f.ahead xs) in
        let z : 1 + f.ahead ≡ suc (0 + f.ahead) = omega arith in
        let y : suc (0 + f.ahead) + length m ≡ suc (0 + f.ahead + length m) = omega arith in
        rw (f.is 1, f.is 0, z, y) (omega arith)
    go (Unsettled k) f = let z : 1 + length xs ≡ suc (0 + length xs) = omega arith in rw (f.1 1, f.1 0, z)

pub work_message : (x : ℕ) (xs : List ℕ) (n : ℕ) → stands (x ∷ xs) ≡ n → 0 < n → work_of (x ∷ xs) ≡ tested (x ∷ xs) + work_of (drop n (x ∷ xs))
unfolding work_of work_in tested_in
work_message x xs n e l =
    let z : 0 + length (take n (x ∷ xs)) ≡ n = zero-add (length (take n (x ∷ xs))) ∙ length-take-le n (x ∷ xs) (rw e at (stands_le (x ∷ xs))) in
    ap (λ d. work_in d (x ∷ xs)) (divide_message x xs 0 n e l) ∙ rw (z, add-zero (tested (x ∷ xs)))

pub work_at : (x : ℕ) (xs : List ℕ) → work_of (x ∷ xs) ≡ tested (x ∷ xs) + work_of (drop (stands (x ∷ xs) - 1) xs)
work_at x xs = go (stands (x ∷ xs)) refl
  where
    go : (n : ℕ) → stands (x ∷ xs) ≡ n → work_of (x ∷ xs) ≡ tested (x ∷ xs) + work_of (drop (n - 1) xs)
    go zero e = work_gap x xs e
    go (suc n) e = let z : suc n - 1 ≡ n = omega arith in work_message x xs (suc n) e (omega arith) ∙ ap (λ i. tested (x ∷ xs) + work_of (drop i xs)) (sym z)
