-- What is tested, a position at a time. Assumes nothing.
use Rattle.std.proofs.Common.{◌≡◌, ℕ, zero, suc, ◌+◌, ◌*◌, ◌%◌, ◌^◌, ◌<◌, ◌≤◌, List, [], ◌∷◌, length, drop, sym, refl, ap, ◌∙◌, add-zero, suc-add, zero-add, arith, drop-cons}
use Rattle.macm.specs.Check.{covered}
use Rattle.front.specs.declared.Claim.{Claim}
use Rattle.front.specs.Claim.{claim}
use Rattle.front.specs.Look.{tested_by, tested}
use Rattle.front.proofs.Bounds.{most, tested_most}
use Rattle.division.specs.Work.{tested_in}

none_in : (k : ℕ) → tested_in k [] ≡ 0
unfolding tested_in
none_in zero = refl
none_in (suc k) = refl

pub tested_split : (j k : ℕ) (xs : List ℕ) → tested_in (j + k) xs ≡ tested_in j xs + tested_in k (drop j xs)
unfolding tested_in
tested_split zero k xs = ap (λ i. tested_in i xs) (zero-add k) ∙ sym (zero-add (tested_in k xs))
tested_split (suc j) k [] = omega (arith, none_in (suc j + k), none_in k)
tested_split (suc j) k (x ∷ xs) = rw (suc-add j k) (omega (arith, tested_split j k xs))

-- for each byte no more than the longest message covers
pub tested_most_in : (k : ℕ) (xs : List ℕ) → tested_in k xs ≤ covered most * length xs
unfolding tested_in
tested_most_in zero xs = omega arith
tested_most_in (suc k) [] = omega arith
tested_most_in (suc k) (x ∷ xs) = omega (arith, tested_most (x ∷ xs), tested_most_in k xs)

-- one position on, by what the bytes from it on claim
pub tested_next : (s : List ℕ) (at : ℕ) → at < length s → (c : Claim) → claim (drop at s) ≡ c → (n : ℕ) → tested_by c (drop at s) ≡ n → tested_in (at + 1) s ≡ tested_in at s + n
unfolding tested_in tested
tested_next s at l c e n h =
    let here : tested_in 1 (drop at s) ≡ tested (drop at s) = rw (drop-cons s at 0 l) (add-zero (tested _)) in
    let says : tested (drop at s) ≡ n = rw e h in
    tested_split at 1 s ∙ ap (λ i. tested_in at s + i) (here ∙ says)

-- the count, as far as 64 bits hold it
pub wrapped : (a b u n m : ℕ) → n ≡ a % 2 ^ 64 → m ≡ (n + u) % 2 ^ 64 → b ≡ a + u → m ≡ b % 2 ^ 64
wrapped a b u n m e h q = omega arith

pub none_tested : (s : List ℕ) → 0 ≡ tested_in 0 s % 2 ^ 64
unfolding tested_in
none_tested s = refl
