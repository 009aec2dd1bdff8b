-- What the walk of `division` finds is what a scan finds. Assumes nothing.
use Prim.Native.Nat.{ℕ, suc, ◌+◌, ◌≤◌}
use mathlib.Core.Path.{◌≡◌, refl, sym, ap, ◌∙◌}
use mathlib.Core.Bool.{Bool, true, false, cond}
use mathlib.Core.List.{List, [], ◌∷◌}
use native.Mathlib.Nat.{add-zero, add-suc, suc-add}
use native.Mathlib.Omega.{arith}
use lib.ListN.{length, take, drop}
use lib.Dec.{leb}
use borrow.Author.Tests.{leb-true}
use Rattle.macm.specs.Check.{agrees}
use Rattle.front.specs.declared.Claim.{Claim}
use Rattle.front.specs.declared.Claim.TheVariants.{Nothing, AtLeast, Long}
use Rattle.front.specs.Claim.{claim}
use Rattle.front.specs.Look.{unsettled, gap, message, judged, look_by, look}
use Rattle.front.proofs.Bounds.{ClaimFact, claim_fact}
use Rattle.division.specs.declared.Walked.{Walked}
use Rattle.division.specs.declared.Walked.TheVariants.{Message, Unsettled}
use Rattle.division.specs.Walk.{further, wanting, walked_by, walk_of}
use Rattle.stream.specs.Scan.{settle, seen, got, stop, scanned, scan}

-- a message of n bytes, `ahead` bytes on
pub record FoundMessage (e : Bool) (xs : List ℕ) (at k n : ℕ) : Type 0 where
  pub ahead : ℕ
  pub counted : k ≡ at + ahead
  pub within : ahead + n ≤ length xs
  pub long : 15 ≤ n
  pub is : (g : ℕ) → scan e xs g ≡ got (g + ahead) n (drop ahead xs)

pub record FoundNone (e : Bool) (xs : List ℕ) (at k : ℕ) : Type 0 where
  pub ahead : ℕ
  pub counted : k ≡ at + ahead
  pub within : ahead ≤ length xs
  pub is : (g : ℕ) → scan e xs g ≡ stop (g + ahead) (drop ahead xs)

abbrev pub Found : Bool → List ℕ → ℕ → Walked → Type 0
Found e xs at (Message k n t) = FoundMessage e xs at k n
Found e xs at (Unsettled k) = FoundNone e xs at k

-- one gap byte more in front
one_more : (e : Bool) (x : ℕ) (xs : List ℕ) (at : ℕ) → seen e (x ∷ xs) ≡ gap → (w : Walked) → Found e xs (suc at) w → Found e (x ∷ xs) at w
unfolding scan scanned
one_more e x xs at s (Message k n t) h =
    record {
      ahead = suc h.ahead;
      counted = omega (arith, h.counted);
      within = omega (arith, h.within);
      long = h.long;
      is = λ g. rw s (h.is (suc g) ∙ ap (λ i. got i n (drop h.ahead xs)) (suc-add g h.ahead ∙ sym (add-suc g h.ahead)));
    }
one_more e x xs at s (Unsettled k) h =
    record {
      ahead = suc h.ahead;
      counted = omega (arith, h.counted);
      within = omega (arith, h.within);
      is = λ g. rw s (h.is (suc g) ∙ ap (λ i. stop i (drop h.ahead xs)) (suc-add g h.ahead ∙ sym (add-suc g h.ahead)));
    }

pub walk_scan : (e : Bool) (xs : List ℕ) (at t : ℕ) → Found e xs at (walk_of e xs at t)
unfolding walk_of walked_by scan scanned seen settle look look_by judged
walk_scan e [] at t = record { ahead = 0; counted = omega arith; within = omega arith; is = λ g. ap (λ i. stop i []) (sym (add-zero g)) }
walk_scan e (x ∷ xs) at t = go e (claim (x ∷ xs)) refl (claim_fact (x ∷ xs)) (walk_scan e xs (suc at))
  where
    here : (e : Bool) → seen e (x ∷ xs) ≡ unsettled → FoundNone e (x ∷ xs) at at
    here e s = record { ahead = 0; counted = omega arith; within = omega arith; is = λ g. rw s (ap (λ i. stop i (x ∷ xs)) (sym (add-zero g))) }

    -- a position that wants bytes
    wants : (e : Bool) → look (x ∷ xs) ≡ unsettled → (t : ℕ) → ((t : ℕ) → Found e xs (suc at) (walk_of e xs (suc at) t)) → Found e (x ∷ xs) at (wanting e at (walk_of e xs (suc at) t))
    wants true s t ih = one_more true x xs at (rw s) (walk_of true xs (suc at) t) (ih t)
    wants false s t ih = here false s

    passes : (e : Bool) → look (x ∷ xs) ≡ gap → (t : ℕ) → ((t : ℕ) → Found e xs (suc at) (walk_of e xs (suc at) t)) → Found e (x ∷ xs) at (walk_of e xs (suc at) t)
    passes true s t ih = one_more true x xs at (rw s) (walk_of true xs (suc at) t) (ih t)
    passes false s t ih = one_more false x xs at s (walk_of false xs (suc at) t) (ih t)

    stands : (e : Bool) (n : ℕ) → 15 ≤ n → n ≤ length (x ∷ xs) → look (x ∷ xs) ≡ message n → FoundMessage e (x ∷ xs) at at n
    stands true n h l s = record { ahead = 0; counted = omega arith; within = omega arith; long = h; is = λ g. rw s (ap (λ i. got i n (x ∷ xs)) (sym (add-zero g))) }
    stands false n h l s = record { ahead = 0; counted = omega arith; within = omega arith; long = h; is = λ g. rw s (ap (λ i. got i n (x ∷ xs)) (sym (add-zero g))) }

    go : (e : Bool) (c : Claim) → claim (x ∷ xs) ≡ c → ClaimFact (x ∷ xs) c → ((t : ℕ) → Found e xs (suc at) (walk_of e xs (suc at) t)) → Found e (x ∷ xs) at (walked_by e c (x ∷ xs) at t (λ u. walk_of e xs (suc at) u))
    go e Nothing p h ih = passes e (rw p) t ih
    go e (AtLeast k) p h ih = wants e (rw p) t ih
    go e (Long n) p h ih = test (leb n (length (x ∷ xs))) refl (agrees (take n (x ∷ xs))) refl
      where
        test : (b : Bool) → leb n (length (x ∷ xs)) ≡ b → (a : Bool) → agrees (take n (x ∷ xs)) ≡ a
            → Found e (x ∷ xs) at (cond b (cond a (Message at n (further t (at + n))) (walk_of e xs (suc at) (further t (at + n)))) (wanting e at (walk_of e xs (suc at) t)))
        test true q true r = stands e n h.0 (leb-true n (length (x ∷ xs)) q) (rw (p, q, r))
        test true q false r = passes e (rw (p, q, r)) (further t (at + n)) ih
        test false q a r = wants e (rw (p, q)) t ih

-- ---- as the code has it
module _ (e : Bool) (xs : List ℕ) (w : Walked) (z : w ≡ walk_of e xs 0 0) where
  found : Found e xs 0 w
  found = rw z (walk_scan e xs 0 0)

  pub found_message : (k n t : ℕ) → w ≡ Message k n t → FoundMessage e xs 0 k n
  found_message k n t q = rw q at found

  pub found_none : (k : ℕ) → w ≡ Unsettled k → FoundNone e xs 0 k
  found_none k q = rw q at found
