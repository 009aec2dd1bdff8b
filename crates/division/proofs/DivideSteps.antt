-- The division, a position at a time. Assumes nothing.
use Rattle.std.proofs.Common.{◌≡◌, ℕ, zero, suc, ◌<◌, List, [], ◌∷◌, take, drop, refl, ap, arith}
use Rattle.octets.specs.Begins.{fit}
use Rattle.front.specs.Claim.{claim_by, claim}
use Rattle.front.specs.Look.{unsettled, look_by, look}
use Rattle.division.specs.Division.{last, part, stands, divided, divide_from, divide}

skipped : (s : ℕ) (xs : List ℕ) (g : ℕ) → divide_from s xs g ≡ divide (drop s xs) g
unfolding divide divide_from
skipped zero xs g = refl
skipped (suc s) [] g = refl
skipped (suc s) (x ∷ xs) g = skipped s xs g

pub divide_nil : (g : ℕ) → divide [] g ≡ last g
unfolding divide divide_from
divide_nil g = refl

pub divide_gap : (x : ℕ) (xs : List ℕ) (g : ℕ) → stands (x ∷ xs) ≡ 0 → divide (x ∷ xs) g ≡ divide xs (suc g)
unfolding divide divide_from divided
divide_gap x xs g e = rw e

pub divide_message : (x : ℕ) (xs : List ℕ) (g n : ℕ) → stands (x ∷ xs) ≡ n → 0 < n → divide (x ∷ xs) g ≡ part g (take n (x ∷ xs)) (divide (drop n (x ∷ xs)) 0)
unfolding divide divide_from divided
divide_message x xs g zero e l = absurd (omega arith)
divide_message x xs g (suc n) e l = rw e (ap (part g (take (suc n) (x ∷ xs))) (skipped n xs 0))

pub look_nil : look [] ≡ unsettled
unfolding look look_by claim claim_by fit
look_nil = refl
