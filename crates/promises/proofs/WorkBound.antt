-- A stream of n bytes has at most (n - 1) / 3 positions to be tested, and none in an empty one. Assumes nothing.
use Prim.Native.Nat.{ℕ, zero, suc, ◌+◌, ◌-◌, ◌*◌, ◌/◌, ◌≤◌, ◌<◌}
use mathlib.Core.Path.{◌≡◌, refl, ap, ◌∙◌}
use mathlib.Core.Bool.{Bool, true, false, cond}
use mathlib.Core.Logic.{◌⊎◌, inl, inr}
use mathlib.Core.List.{List, [], ◌∷◌}
use native.Mathlib.Nat.{mul-le-mul_left}
use native.Mathlib.Omega.{arith}
use lib.ListN.{length, drop, length-drop}
use lib.Dec.{leb}
use borrow.Author.Tests.{leb-true}
use Rattle.octets.specs.Begins.{fit}
use Rattle.octets.specs.declared.Fit.{Fit}
use Rattle.octets.specs.declared.Fit.TheVariants.{Whole, Part, Bad}
use Rattle.octets.proofs.Begins.{Fits, fit_common, common_take}
use Rattle.macm.specs.declared.Form.TheVariants.{New, Old}
use Rattle.macm.specs.Form.{new_sync, old_sync}
use Rattle.macm.specs.Check.{covered}
use Rattle.front.specs.declared.Claim.{Claim}
use Rattle.front.specs.declared.Claim.TheVariants.{Nothing, AtLeast, Long}
use Rattle.front.specs.Claim.{claim_by, claim}
use Rattle.front.specs.Look.{Look, unsettled, gap, message, look, tested_by, tested}
use Rattle.front.proofs.Bounds.{ClaimFact, claim_fact, LookFact, look_fact, most, tested_most}
use Rattle.division.specs.Division.{length_of, stands}
use Rattle.division.specs.Work.{work_of}
use Rattle.promises.specs.Work.{SyncAt}
use Rattle.promises.proofs.SyncApart.{sync_apart}
use Rattle.promises.proofs.WorkSteps.{work_nil, work_at}

-- ---- it is tested where a sync string stands, and a message has 15 bytes or more
abbrev Tried : List ℕ → Type 0
Tried xs = (tested xs ≡ 0) ⊎ (SyncAt xs 0 × (15 ≤ length xs))

module _ (xs : List ℕ) where
  clash : (k n : ℕ) → AtLeast k ≡ Long n → ⊥
  clash k n e = let y : ◌≡◌ {A = ℕ} 0 1 = cc in omega arith

  long_sync : (n : ℕ) → claim xs ≡ Long n → SyncAt xs 0
  unfolding claim claim_by
  long_sync n = go (fit new_sync xs) (fit old_sync xs) (fit_common new_sync xs) (fit_common old_sync xs)
    where
      go : (a b : Fit) → Fits new_sync xs a → Fits old_sync xs b → claim_by a b xs ≡ Long n → SyncAt xs 0
      go Whole b p q e = (New 0 0, rw p at (common_take new_sync xs))
      go Part b p q e = absurd (clash (suc (length xs)) n e)
      go Bad Whole p q e = (Old 0, rw q at (common_take old_sync xs))
      go Bad Part p q e = absurd (clash (suc (length xs)) n e)
      go Bad Bad p q e = absurd (let y : ◌≡◌ {A = ℕ} 0 1 = cc in omega arith)

  tried : Tried xs
  unfolding tested tested_by
  tried = go (claim xs) refl (claim_fact xs)
    where
      go : (c : Claim) → claim xs ≡ c → ClaimFact xs c → (tested_by c xs ≡ 0) ⊎ (SyncAt xs 0 × (15 ≤ length xs))
      go Nothing e f = inl refl
      go (AtLeast k) e f = inl refl
      go (Long n) e f = test (leb n (length xs)) refl
        where
          test : (t : Bool) → leb n (length xs) ≡ t → (cond t (covered n) 0 ≡ 0) ⊎ (SyncAt xs 0 × (15 ≤ length xs))
          test true l = inr (long_sync n e, omega (arith, leb-true n (length xs) l))
          test false l = inl refl

-- none is tested one or two bytes on from one that is
next_free : (xs : List ℕ) (k : ℕ) → SyncAt xs 0 → 0 < k → k < 3 → tested (drop k xs) ≡ 0
next_free xs k s a b = go (tried (drop k xs))
  where
    go : Tried (drop k xs) → tested (drop k xs) ≡ 0
    go (inl e) = e
    go (inr y) = absurd (omega (arith, sync_apart xs 0 k s y.0 a))

message_long : (xs : List ℕ) → (stands xs ≡ 0) ⊎ (15 ≤ stands xs)
unfolding stands length_of
message_long xs = go (look xs) (look_fact xs)
  where
    go : (l : Look) → LookFact xs l → (length_of l ≡ 0) ⊎ (15 ≤ length_of l)
    go unsettled f = inl refl
    go gap f = inl refl
    go (message n) f = inr f.0

-- ---- past positions that are not tested
record Past (xs : List ℕ) (k : ℕ) : Type 0 where
  rest : List ℕ
  short : length rest ≤ k
  same : work_of xs ≡ work_of rest

past_one : (x : ℕ) (xs : List ℕ) → tested (x ∷ xs) ≡ 0 → Past (x ∷ xs) (length xs)
past_one x xs e =
    let c = stands (x ∷ xs) - 1 in
    record { rest = drop c xs; short = omega (arith, length-drop c xs); same = omega (arith, work_at x xs) }

past_two : (x y : ℕ) (xs : List ℕ) → tested (x ∷ y ∷ xs) ≡ 0 → tested (y ∷ xs) ≡ 0 → Past (x ∷ y ∷ xs) (length xs)
past_two x y xs e h = go (stands (x ∷ y ∷ xs) - 1) (work_at x (y ∷ xs))
  where
    go : (c : ℕ) → work_of (x ∷ y ∷ xs) ≡ tested (x ∷ y ∷ xs) + work_of (drop c (y ∷ xs)) → Past (x ∷ y ∷ xs) (length xs)
    go zero w = let p = past_one y xs h in record { rest = p.rest; short = p.short; same = omega (arith, p.same) }
    go (suc c) w = record { rest = drop c xs; short = omega (arith, length-drop c xs); same = omega arith }

-- ---- the bound, of the most bytes b that any position has run through the checksum
module _ (b : ℕ) (bounded : (xs : List ℕ) → tested xs ≤ b) where
  abbrev Within : List ℕ → Type 0
  Within xs = work_of xs ≤ b * ((length xs - 1) / 3)

  none_more : (xs ys : List ℕ) → length ys ≤ length xs → work_of xs ≡ work_of ys → Within ys → Within xs
  none_more xs ys l e h =
      let m : (length ys - 1) / 3 ≤ (length xs - 1) / 3 = omega arith in
      omega (arith, mul-le-mul_left b m)

  one_more : (xs ys : List ℕ) → 4 ≤ length xs → length ys + 3 ≤ length xs → work_of xs ≡ tested xs + work_of ys → Within ys → Within xs
  one_more xs ys k l e h =
      let m : suc ((length ys - 1) / 3) ≤ (length xs - 1) / 3 = omega arith in
      omega (arith, bounded xs, mul-le-mul_left b m)

  within : (n : ℕ) (xs : List ℕ) → length xs ≤ n → Within xs
  within zero [] l = omega (arith, work_nil)
  within zero (x ∷ xs) l = absurd (omega arith)
  within (suc n) [] l = omega (arith, work_nil)
  within (suc n) (x ∷ xs) l = go (tried (x ∷ xs)) (λ ys. within n ys)
    where
      -- behind a sync string where no message stands
      behind : (ys : List ℕ) → length ys ≤ n → 14 ≤ length ys → SyncAt (x ∷ ys) 0 → work_of (x ∷ ys) ≡ tested (x ∷ ys) + work_of ys → ((ys : List ℕ) → length ys ≤ n → Within ys) → Within (x ∷ ys)
      behind [] l k s w ih = absurd (omega arith)
      behind (y ∷ []) l k s w ih = absurd (omega arith)
      behind (y ∷ z ∷ ys) l k s w ih =
          let p = past_two y z ys (next_free (x ∷ y ∷ z ∷ ys) 1 s (omega arith) (omega arith)) (next_free (x ∷ y ∷ z ∷ ys) 2 s (omega arith) (omega arith)) in
          one_more (x ∷ y ∷ z ∷ ys) p.rest (omega arith) (omega (arith, p.short)) (w ∙ ap (λ i. tested (x ∷ y ∷ z ∷ ys) + i) p.same) (ih p.rest (omega (arith, p.short)))

      go : Tried (x ∷ xs) → ((ys : List ℕ) → length ys ≤ n → Within ys) → Within (x ∷ xs)
      go (inl e) ih = let p = past_one x xs e in none_more (x ∷ xs) p.rest (omega (arith, p.short)) p.same (ih p.rest (omega (arith, p.short)))
      go (inr s) ih = at (stands (x ∷ xs)) (message_long (x ∷ xs)) (work_at x xs)
        where
          at : (c : ℕ) → (c ≡ 0) ⊎ (15 ≤ c) → work_of (x ∷ xs) ≡ tested (x ∷ xs) + work_of (drop (c - 1) xs) → Within (x ∷ xs)
          at c (inl e) w = behind xs (omega arith) (omega (arith, s.1)) s.0 (rw e at w) ih
          at c (inr m) w =
              let d = length-drop (c - 1) xs in
              one_more (x ∷ xs) (drop (c - 1) xs) (omega (arith, s.1)) (omega (arith, s.1, d)) w (ih (drop (c - 1) xs) (omega (arith, d)))

  pub work_bound : (xs : List ℕ) → work_of xs ≤ b * ((length xs - 1) / 3)
  work_bound xs = within (length xs) xs (omega arith)

-- no message covers more than 6,131 bytes
pub work_at_most : (xs : List ℕ) → work_of xs ≤ 6131 * ((length xs - 1) / 3)
work_at_most xs = work_bound (covered most) tested_most xs
