-- What each step of the walk comes to, in the definitions' words. Assumes nothing.
use Rattle.std.proofs.Common.{◌≡◌, ℕ, ◌+◌, ◌-◌, ◌%◌, ◌^◌, ◌<◌, ◌≤◌, max, Bool, true, false, cond, ltb, ltb-true, ltb-false, List, length, take, drop, sym, refl, ap, ◌∙◌, add-zero, add-one, arith, length-drop, drop_of_length-le, length-take-le, take_all, drop-cons, le-leb}
use borrow.Author.Tests.{lt-leb}
use Rattle.macm.specs.declared.Agreement.{Agreement}
use Rattle.macm.specs.Check.{covered, agrees, agreement}
use Rattle.front.specs.declared.Claim.{Claim}
use Rattle.front.specs.declared.Claim.TheVariants.{Nothing, AtLeast, Long}
use Rattle.front.specs.Claim.{claim}
use Rattle.front.specs.Look.{tested_by}
use Rattle.division.specs.declared.Step.TheVariants.{Gap, Wants, Message as Found}
use Rattle.division.specs.declared.Passage.{Passage}
use Rattle.division.specs.declared.Walked.{Walked}
use Rattle.division.specs.declared.Walked.TheVariants.{Unsettled}
use Rattle.division.specs.Walk.{further, walked_by, walk_of, settled, whole_walk}
use Rattle.division.specs.Work.{tested_in}
use Rattle.division.specs.Steps.{Skipped, Stepped}
use Rattle.division.proofs.Skipping.{skipped_over}
use Rattle.division.proofs.TestedSteps.{tested_next}

module _ (ended : Bool) (s : List ℕ) (reach at : ℕ) (l : at < length s) where
  pub walk_at : walk_of ended (drop at s) at reach ≡ walked_by ended (claim (drop at s)) (drop at s) at reach (λ t. walk_of ended (drop (at + 1) s) (at + 1) t)
  unfolding walk_of
  walk_at = rw (drop-cons s at 0 l, add-one)

  passes : claim (drop at s) ≡ Nothing → walk_of ended (drop at s) at reach ≡ walk_of ended (drop (at + 1) s) (at + 1) reach
  unfolding walked_by
  passes e = walk_at ∙ rw e

pub furthest : (a b : ℕ) → further a b ≡ max a b
furthest a b = go (ltb a b) refl
  where
    go : (t : Bool) → ltb a b ≡ t → cond t b a ≡ max a b
    go true e = omega (arith, ltb-true a b e)
    go false e = omega (arith, ltb-false a b e)

module _ (s : List ℕ) (reach at : ℕ) (l : at < length s) where
  pub waits : (k : ℕ) → claim (drop at s) ≡ AtLeast k → Stepped s at reach Wants
  unfolding walked_by tested_by
  waits k e = (λ ended. walk_at ended s reach at l ∙ rw e, tested_next s at l (AtLeast k) e 0 refl ∙ add-zero (tested_in at s))

  module _ (n : ℕ) (e : claim (drop at s) ≡ Long n) where
    pub short : length s - at < n → Stepped s at reach Wants
    unfolding walked_by tested_by
    short m =
        let k = lt-leb n (length (drop at s)) (omega (arith, length-drop at s)) in
        (λ ended. walk_at ended s reach at l ∙ rw (e, k), tested_next s at l (Long n) e 0 (rw k) ∙ add-zero (tested_in at s))

    module _ (here : n ≤ length s - at) (u : ℕ) (q : u ≡ max reach (at + n)) where
      all : n ≤ length (drop at s)
      all = omega (arith, length-drop at s)

      module _ (c : ℕ) (z : c ≡ covered n) where
        counted : tested_in (at + 1) s ≡ tested_in at s + c
        unfolding tested_by
        counted = tested_next s at l (Long n) e c (rw (le-leb n (length (drop at s)) all, z))

        pub agreed : agrees (take n (drop at s)) ≡ true → Stepped s at reach (Found n u c)
        unfolding walked_by
        agreed a = (λ ended. walk_at ended s reach at l ∙ rw (e, le-leb n (length (drop at s)) all, a, furthest reach (at + n), q), ap (λ i. tested_in i s) (sym (add-one at)) ∙ counted)

        pub damaged : agrees (take n (drop at s)) ≡ false → Stepped s at reach (Gap (at + 1) u c)
        unfolding walked_by
        damaged a = (omega arith, omega arith, λ ended. walk_at ended s reach at l ∙ rw (e, le-leb n (length (drop at s)) all, a, furthest reach (at + n), q), counted)

-- over bytes where none starts
pub nothing : (s : List ℕ) (reach at r : ℕ) → at < length s → claim (drop at s) ≡ Nothing → Skipped s (at + 1) r → Stepped s at reach (Gap r reach 0)
unfolding tested_by
nothing s reach at r l e n = (
  omega (arith, n.from_on),
  n.within,
  λ ended. passes ended s reach at l e ∙ skipped_over (λ i. walk_of ended (drop i s) i reach) s (λ k m q. passes ended s reach k m q) (at + 1) r n,
  sym (skipped_over (λ i. tested_in i s) s (λ k m q. sym (tested_next s k m Nothing q 0 refl ∙ add-zero (tested_in k s))) (at + 1) r n) ∙ tested_next s at l Nothing e 0 refl,
)

-- ---- as the code has it: what `&bytes[at..]` and `&bytes[at..end]` are, and which way a step went
pub claimed : (s : List ℕ) (at : ℕ) (r : Claim) → r ≡ claim (take (length s - at) (drop at s)) → claim (drop at s) ≡ r
claimed s at r e = sym (e ∙ ap claim (take_all (length s - at) (drop at s) (omega (arith, length-drop at s))))

module _ (s : List ℕ) (at n : ℕ) (r : Agreement) (e : r ≡ agreement (take (at + n - at) (drop at s))) where
  same : r ≡ agreement (take n (drop at s))
  same = let z : at + n - at ≡ n = omega arith in e ∙ ap (λ k. agreement (take k (drop at s))) z

  pub agreed_so : agrees (take n (drop at s)) ≡ r.agrees
  agreed_so = sym (ap (λ i. i.agrees) same)

  pub summed_so : n ≤ length s - at → r.summed ≡ covered n
  summed_so l = ap (λ i. i.summed) same ∙ ap covered (length-take-le n (drop at s) (omega (arith, length-drop at s)))

pub walk_end : (ended : Bool) (s : List ℕ) (at reach : ℕ) → length s ≤ at → walk_of ended (drop at s) at reach ≡ Unsettled at
unfolding walk_of
walk_end ended s at reach l = rw (drop_of_length-le s l)

-- ---- the whole walk, from where it came to
pub walk_made : (ended : Bool) (s : List ℕ) (w : Walked) (n : ℕ) → walk_of ended s 0 0 ≡ w → n ≡ tested_in (settled w) s % 2 ^ 64 → ◌≡◌ {A = Passage} (record { walked = w; summed = n }) (whole_walk ended s)
walk_made ended s w n e h = rw e (ap (λ i. record { walked = w; summed = i }) h)
