-- What bytes claim to be, in the words of a reason. Assumes nothing.
use Prim.Native.Nat.{ℕ, suc, ◌-◌, ◌≤◌, ◌<◌}
use mathlib.Core.Path.{◌≡◌, refl, sym, ap, ◌∙◌}
use mathlib.Core.Bool.{Bool, true, false, cond}
use mathlib.Core.Logic.{◌⊎◌, inl, inr, ⊎_elim}
use mathlib.Core.List.{List, ◌++◌}
use native.Mathlib.Omega.{arith}
use lib.ListN.{length, get_or, take, drop, take-append-drop}
use lib.Seq.{take_all}
use lib.Dec.{ltb, leb}
use borrow.Author.Tests.{ltb-true, ltb-false, lt-ltb, le-ltb, le-leb}
use Rattle.octets.specs.Begins.{common, fit}
use Rattle.octets.specs.Numbers.{Bytes}
use Rattle.octets.specs.declared.Fit.{Fit}
use Rattle.octets.specs.declared.Fit.TheVariants.{Whole, Part, Bad}
use Rattle.octets.proofs.Begins.{take_fewer, common_take, take_common, common_within, Fits, fit_common, common_bad, begins_part}
use Rattle.macm.specs.declared.Form.{Form}
use Rattle.macm.specs.declared.Form.TheVariants.{New, Old}
use Rattle.macm.specs.Form.{new_sync, old_sync, count_at, size}
use Rattle.front.specs.declared.Claim.{Claim}
use Rattle.front.specs.declared.Claim.TheVariants.{Nothing, AtLeast, Long}
use Rattle.front.specs.Claim.{cap, counted, claim_by, claim}
use Rattle.reason.specs.Reason.{wrong_at}
use Rattle.promises.specs.Reason.{sync_of, FitsNeither, EndsBeforeCount, Claims}

abbrev pub ClaimSays : List ℕ → Claim → Type 0
ClaimSays xs Nothing = FitsNeither xs (wrong_at xs)
ClaimSays xs (AtLeast k) = EndsBeforeCount xs
ClaimSays xs (Long n) = Claims xs n

-- ---- what is claimed is so
module _ (xs : List ℕ) where
  -- the first bytes that are common to a form's sync string, where both forms are contradicted
  neither_fits : Fits new_sync xs Bad → Fits old_sync xs Bad → FitsNeither xs (wrong_at xs)
  neither_fits n o = go (ltb a b) refl
    where
      a : ℕ
      a = common new_sync xs

      b : ℕ
      b = common old_sync xs

      less : (k : ℕ) → suc k - 1 ≡ k
      less k = omega arith

      not : (k : ℕ) → k ≤ length xs → k ≤ 4 → a < k → b < k → (f : Form) → take k xs ≡ take k (sync_of f) → ⊥
      not k l m p q (New t u) e = absurd (omega (arith, take_common new_sync xs k l m e))
      not k l m p q (Old v) e = absurd (omega (arith, take_common old_sync xs k l m e))

      go : (t : Bool) → ltb a b ≡ t → FitsNeither xs (suc (cond t b a))
      go true e =
          let l = ltb-true a b e in
          record { from_one = omega arith; to_four = omega (arith, o.0); here = omega (arith, o.1); form = Old 0; before = rw (less b) (common_take old_sync xs); neither = not (suc b) (omega (arith, o.1)) (omega (arith, o.0)) (omega arith) (omega arith) }
      go false e =
          let l = ltb-false a b e in
          record { from_one = omega arith; to_four = omega (arith, n.0); here = omega (arith, n.1); form = New 0 0; before = rw (less a) (common_take new_sync xs); neither = not (suc a) (omega (arith, n.1)) (omega (arith, n.0)) (omega arith) (omega arith) }

  part_ends : (f : Form) → length (sync_of f) ≡ 4 → 4 ≤ count_at f → Fits (sync_of f) xs Part → EndsBeforeCount xs
  part_ends f four low h = record { form = f; sync = take_all 4 xs (omega (arith, h.1)) ∙ sym (take_all (length xs) xs (omega arith)) ∙ rw h.0 at (common_take (sync_of f) xs); ends = omega (arith, h.1) }

  counted_says : (f : Form) → Bytes xs → length (sync_of f) ≡ 4 → Fits (sync_of f) xs Whole → ClaimSays xs (counted f xs)
  unfolding counted
  counted_says f b four h = go (ltb (count_at f) (length xs)) refl
    where
      N : ℕ
      N = get_or xs (count_at f) 0

      sync : take 4 xs ≡ sync_of f
      sync = rw (h, four) at (common_take (sync_of f) xs) ∙ take_all 4 (sync_of f) (omega (arith, four))

      go : (t : Bool) → ltb (count_at f) (length xs) ≡ t → ClaimSays xs (cond t (cond (leb N cap) (Long (size f N)) Nothing) (AtLeast (suc (count_at f))))
      go true e = rw (le-leb N cap (omega (arith, b (count_at f)))) (record { form = f; sync = sync; counted = ltb-true (count_at f) (length xs) e; long = refl })
      go false e =
          let z : take (length xs) (sync_of f) ≡ sync_of f = take_all (length xs) (sync_of f) (omega (arith, h, (common_within (sync_of f) xs).1)) in
          record { form = f; sync = sync ∙ sym z; ends = ltb-false (count_at f) (length xs) e }

  pub claim_says : Bytes xs → ClaimSays xs (claim xs)
  unfolding claim claim_by
  claim_says b = go (fit new_sync xs) (fit old_sync xs) (fit_common new_sync xs) (fit_common old_sync xs)
    where
      go : (n o : Fit) → Fits new_sync xs n → Fits old_sync xs o → ClaimSays xs (claim_by n o xs)
      go Whole o p q = counted_says (New 0 0) b refl p
      go Part o p q = part_ends (New 0 0) refl (omega arith) p
      go Bad Whole p q = counted_says (Old 0) b refl q
      go Bad Part p q = part_ends (Old 0) refl (omega arith) q
      go Bad Bad p q = neither_fits p q

-- ---- and what is so is claimed
module _ (xs : List ℕ) where
  -- bytes that begin with a sync string
  begins_new : take 4 xs ≡ new_sync → claim xs ≡ counted (New 0 0) xs
  unfolding claim claim_by fit
  begins_new e = ap (λ l. claim_by (fit new_sync l) (fit old_sync l) xs) (sym (take-append-drop 4 xs) ∙ ap (λ l. l ++ drop 4 xs) e)

  begins_old : take 4 xs ≡ old_sync → claim xs ≡ counted (Old 0) xs
  unfolding claim claim_by fit
  begins_old e = ap (λ l. claim_by (fit new_sync l) (fit old_sync l) xs) (sym (take-append-drop 4 xs) ∙ ap (λ l. l ++ drop 4 xs) e)

  begins_form : (f : Form) → take 4 xs ≡ sync_of f → claim xs ≡ counted f xs
  unfolding counted
  begins_form (New t u) e = begins_new e
  begins_form (Old v) e = begins_old e

  pub claims_long : Bytes xs → (n : ℕ) → Claims xs n → claim xs ≡ Long n
  unfolding counted
  claims_long b n h =
      let N = get_or xs (count_at h.form) 0 in
      begins_form h.form h.sync ∙ rw (lt-ltb (count_at h.form) (length xs) h.counted, le-leb N cap (omega (arith, b (count_at h.form))), h.long)

  counted_ends : (f : Form) → length xs ≤ count_at f → counted f xs ≡ AtLeast (suc (count_at f))
  unfolding counted
  counted_ends f l = rw (le-ltb (count_at f) (length xs) l)

  -- shorter than a sync string, and the beginning of one
  begins_short : (f : Form) → length xs < 4 → take (length xs) xs ≡ take (length xs) (sync_of f) → claim xs ≡ AtLeast (suc (length xs))
  unfolding claim claim_by
  begins_short (New t u) l e = rw (← begins_part new_sync xs l e)
  begins_short (Old v) l e = go (fit new_sync xs) (fit_common new_sync xs)
    where
      go : (n : Fit) → Fits new_sync xs n → claim_by n (fit old_sync xs) xs ≡ AtLeast (suc (length xs))
      go Whole h = absurd (omega (arith, h, (common_within new_sync xs).1))
      go Part h = refl
      go Bad h = rw (← begins_part old_sync xs l e)

  pub ends_at_least : EndsBeforeCount xs → (k : ℕ) × (claim xs ≡ AtLeast k)
  ends_at_least h = go (ltb (length xs) 4) refl
    where
      four : (f : Form) → length (sync_of f) ≡ 4
      four (New t u) = refl
      four (Old v) = refl

      go : (b : Bool) → ltb (length xs) 4 ≡ b → (k : ℕ) × (claim xs ≡ AtLeast k)
      go true e =
          let l = ltb-true (length xs) 4 e in
          (suc (length xs), begins_short h.form l (take_all (length xs) xs (omega arith) ∙ sym (take_all 4 xs (omega arith)) ∙ h.sync))
      go false e =
          let l = ltb-false (length xs) 4 e in
          (suc (count_at h.form), begins_form h.form (h.sync ∙ take_all (length xs) (sync_of h.form) (omega (arith, four h.form))) ∙ counted_ends h.form h.ends)

  pub neither_nothing : (k : ℕ) → FitsNeither xs k → (claim xs ≡ Nothing) × (wrong_at xs ≡ k)
  unfolding claim claim_by
  neither_nothing k h = (rw (← bad new_sync (omega arith) (within (New 0 0)), ← bad old_sync (omega arith) (within (Old 0))), at (ltb new old) refl (reaches h.form h.before))
    where
      new : ℕ
      new = common new_sync xs

      old : ℕ
      old = common old_sync xs

      within : (f : Form) → common (sync_of f) xs < k
      within f = lt (ltb (common (sync_of f) xs) k) refl
        where
          lt : (b : Bool) → ltb (common (sync_of f) xs) k ≡ b → common (sync_of f) xs < k
          lt true e = ltb-true (common (sync_of f) xs) k e
          lt false e = absurd (h.neither f (take_fewer k (common (sync_of f) xs) xs (sync_of f) (ltb-false (common (sync_of f) xs) k e) (common_take (sync_of f) xs)))

      bad : (t : List ℕ) → 4 ≤ length t → common t xs < k → Bad ≡ fit t xs
      bad t l c = common_bad t xs (omega (arith, h.to_four)) (omega (arith, h.here))

      reaches : (f : Form) → take (k - 1) xs ≡ take (k - 1) (sync_of f) → (k - 1 ≤ new) ⊎ (k - 1 ≤ old)
      reaches (New t u) e = inl (take_common new_sync xs (k - 1) (omega (arith, h.here)) (omega (arith, h.to_four)) e)
      reaches (Old v) e = inr (take_common old_sync xs (k - 1) (omega (arith, h.here)) (omega (arith, h.to_four)) e)

      at : (b : Bool) → ltb new old ≡ b → (k - 1 ≤ new) ⊎ (k - 1 ≤ old) → suc (cond b old new) ≡ k
      at true e r =
          let l = ltb-true new old e in
          let far : k - 1 ≤ old = ⊎_elim (λ a. omega (arith, a)) (λ a. a) r in
          omega (arith, within (Old 0), h.from_one)
      at false e r =
          let l = ltb-false new old e in
          let far : k - 1 ≤ new = ⊎_elim (λ a. a) (λ a. omega (arith, a)) r in
          omega (arith, within (New 0 0), h.from_one)
