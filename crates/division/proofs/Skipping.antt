-- Bytes where no sync string starts are passed over at once. Assumes nothing.
use Rattle.std.proofs.Common.{◌≡◌, ℕ, zero, suc, ◌+◌, ◌-◌, ◌<◌, ◌≤◌, Bool, true, false, cond, eqb, ltb, List, ◌∷◌, length, get_or, drop, sym, refl, ap, ◌∙◌, inl, inr, add-zero, arith, drop-cons, ltb-false, ltb-true, ne_eqb}
use Rattle.octets.specs.Begins.{fit}
use Rattle.octets.specs.declared.Fit.TheVariants.{Bad}
use Rattle.front.specs.declared.Claim.TheVariants.{Nothing}
use Rattle.front.specs.Claim.{claim_by, claim}
use Rattle.division.specs.Steps.{NoStart, Skipped}

-- ---- what the loops find
pub skipped_more : (s : List ℕ) (from i d : ℕ) → Skipped s from i → i + d ≤ length s → ((m : ℕ) → m < d → NoStart s (i + m)) → Skipped s from (i + d)
skipped_more s from i d n l h = record { from_on = omega (arith, n.from_on); within = l; none = λ j a b. test j a b (ltb j i) refl }
  where
    test : (j : ℕ) → from ≤ j → j < i + d → (t : Bool) → ltb j i ≡ t → NoStart s j
    test j a b true x = n.none j a (ltb-true _ _ x)
    test j a b false x =
        let y : i ≤ j = ltb-false _ _ x in
        let z : i + (j - i) ≡ j = omega arith in
        rw z at (h (j - i) (omega arith))

-- ---- why it may be passed over: such a position claims nothing
claim_other : (b : ℕ) (xs : List ℕ) → (b ≡ 0x4D → ⊥) → claim (b ∷ xs) ≡ Nothing
unfolding claim claim_by fit
claim_other b xs n = rw (ne_eqb b 0x4D n)

claim_second : (a b : ℕ) (xs : List ℕ) → (b ≡ 0x41 → ⊥) → claim (a ∷ b ∷ xs) ≡ Nothing
unfolding claim claim_by fit
claim_second a b xs n = rw (ne_eqb b 0x41 n) (go (eqb a 0x4D))
  where
    go : (t : Bool) → claim_by (cond t Bad Bad) (cond t Bad Bad) (a ∷ b ∷ xs) ≡ Nothing
    go true = refl
    go false = refl

pub no_start : (s : List ℕ) (k : ℕ) → k < length s → NoStart s k → claim (drop k s) ≡ Nothing
no_start s k l (inl n) = ap claim (drop-cons s k 0 l) ∙ claim_other (get_or s k 0) (drop (suc k) s) n
no_start s k l (inr n) =
    let m : suc k < length s = omega (arith, n.0) in
    let z : k + 1 ≡ suc k = omega arith in
    let d : drop k s ≡ get_or s k 0 ∷ get_or s (suc k) 0 ∷ drop (suc (suc k)) s = drop-cons s k 0 l ∙ ap (λ xs. get_or s k 0 ∷ xs) (drop-cons s (suc k) 0 m) in
    ap claim d ∙ claim_second (get_or s k 0) (get_or s (suc k) 0) (drop (suc (suc k)) s) (rw z at n.1)

-- ---- what stays as it is over each position that claims nothing stays so over all of them
module _ {A : Type 0} (f : ℕ → A) (s : List ℕ) (stays : (k : ℕ) → k < length s → claim (drop k s) ≡ Nothing → f k ≡ f (k + 1)) where
  skips : (d k : ℕ) → k + d ≤ length s → ((i : ℕ) → k ≤ i → i < k + d → NoStart s i) → f k ≡ f (k + d)
  skips zero k l n = ap f (sym (add-zero k))
  skips (suc d) k l n =
      let z : k + 1 + d ≡ k + suc d = omega arith in
      stays k (omega arith) (no_start s k (omega arith) (n k (omega arith) (omega arith))) ∙ skips d (k + 1) (omega arith) (λ i a b. n i (omega arith) (omega arith)) ∙ ap f z

  pub skipped_over : (from r : ℕ) → Skipped s from r → f from ≡ f r
  skipped_over from r n =
      let z : from + (r - from) ≡ r = omega (arith, n.from_on) in
      skips (r - from) from (omega (arith, n.within)) (λ i a b. n.none i a (omega arith)) ∙ ap f z
