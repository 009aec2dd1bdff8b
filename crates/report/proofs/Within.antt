-- A walk stops within the bytes that it walks over. Assumes nothing.
use Rattle.std.proofs.Common.{◌≡◌, ℕ, suc, ◌+◌, ◌≤◌, Bool, true, false, cond, leb, List, [], ◌∷◌, length, take, refl, subst, arith, leb-true}
use Rattle.macm.specs.Check.{agrees}
use Rattle.front.specs.declared.Claim.{Claim}
use Rattle.front.specs.declared.Claim.TheVariants.{Nothing, AtLeast, Long}
use Rattle.front.specs.Claim.{claim}
use Rattle.division.specs.declared.Walked.{Walked}
use Rattle.division.specs.declared.Walked.TheVariants.{Message, Unsettled}
use Rattle.division.specs.Walk.{further, wanting, walked_by, walk_of}
use Rattle.report.specs.Within.{Within}

module _ (ended : Bool) where
  -- from position `at` on
  from : (xs : List ℕ) (at reach : ℕ) → Within (at + length xs) (walk_of ended xs at reach)
  unfolding walk_of walked_by
  from [] at reach = omega arith
  from (x ∷ xs) at reach = go (claim (x ∷ xs)) (from xs (suc at))
    where
      on : (w : Walked) → Within (suc at + length xs) w → Within (at + suc (length xs)) w
      on (Message k n t) h = omega (arith, h)
      on (Unsettled k) h = omega (arith, h)

      go : (c : Claim) → ((t : ℕ) → Within (suc at + length xs) (walk_of ended xs (suc at) t))
          → Within (at + suc (length xs)) (walked_by ended c (x ∷ xs) at reach (λ t. walk_of ended xs (suc at) t))
      go Nothing rest = on _ (rest reach)
      go (AtLeast k) rest = stop ended
        where
          stop : (b : Bool) → Within (at + suc (length xs)) (wanting b at (walk_of ended xs (suc at) reach))
          stop true = on _ (rest reach)
          stop false = omega arith
      go (Long n) rest = test (leb n (length (x ∷ xs))) refl (agrees (take n (x ∷ xs))) ended
        where
          test : (b : Bool) → leb n (length (x ∷ xs)) ≡ b → (a e : Bool)
              → Within (at + suc (length xs)) (cond b (cond a (Message at n (further reach (at + n))) (walk_of ended xs (suc at) (further reach (at + n)))) (wanting e at (walk_of ended xs (suc at) reach)))
          test true q true e = omega (arith, leb-true n (length (x ∷ xs)) q)
          test true q false e = on _ (rest (further reach (at + n)))
          test false q a true = on _ (rest reach)
          test false q a false = omega arith

pub walk_within : (ended : Bool) (xs : List ℕ) → Within (length xs) (walk_of ended xs 0 0)
walk_within ended xs = let z : 0 + length xs ≡ length xs = omega arith in subst (λ n. Within n (walk_of ended xs 0 0)) z (from ended xs 0 0)
