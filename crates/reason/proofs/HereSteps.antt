-- What each step of the reason at the first byte comes to, in the definitions' words. Assumes nothing.
use Rattle.std.specs.Prelude.{Ok, Err}
use Prim.Native.Nat.{ℕ, suc, ◌+◌, ◌-◌, ◌≤◌, ◌<◌}
use mathlib.Core.Path.{◌≡◌, refl, sym, ap, ap₂, ◌∙◌}
use mathlib.Core.List.{List, [], ◌∷◌}
use native.Mathlib.Omega.{arith}
use lib.ListN.{length, get_or, take, drop, length-drop}
use lib.Seq.{take-suc, get_or-drop}
use lib.Bits.{bit_xor}
use borrow.Author.Tests.{le-leb, lt-leb, eq-eqb, ne_eqb}
use Rattle.octets.specs.Checksum.{checksum_from, checksum_of}
use Rattle.octets.proofs.ExclusiveOr.{checksum_append}
use Rattle.refusal.specs.declared.Refusal.TheVariants.{PastEnd}
use Rattle.front.specs.declared.Claim.{Claim}
use Rattle.front.specs.declared.Claim.TheVariants.{Nothing, AtLeast, Long}
use Rattle.front.specs.Claim.{claim}
use Rattle.front.proofs.Bounds.{ClaimFact, claim_fact}
use Rattle.reason.specs.declared.Reason.TheVariants.{Given, Sync, CutUnknown, CutShort, Checksum}
use Rattle.reason.specs.Reason.{wrong_at, residue_of, summed, said_by, here_of}

-- a claimed message is long enough to have a checksum
pub long_five : (xs : List ℕ) (c : Claim) → c ≡ claim xs → (n : ℕ) → c ≡ Long n → 5 ≤ n
long_five xs c e n q = let h : ClaimFact xs (Long n) = rw (← e, q) at (claim_fact xs) in omega (arith, h.0)

-- ---- the checksum

-- as the code has it: that of `&bytes[4..last]`, and the last byte
pub residue_last : (xs : List ℕ) (n a : ℕ) → 5 ≤ n → n ≤ length xs → a ≡ checksum_of (take (n - 1 - 4) (drop 4 xs)) → bit_xor a (get_or xs (n - 1) 0) ≡ residue_of n xs
unfolding checksum_from
residue_last xs n a l here e =
    let k = n - 1 - 4 in
    let y : 4 + k ≡ n - 1 = omega arith in
    let z : suc k ≡ n - 4 = omega arith in
    ap₂ bit_xor e (ap (λ i. get_or xs i 0) (sym y) ∙ sym (get_or-drop 4 xs k 0)) ∙ sym (checksum_append (take k (drop 4 xs)) (get_or (drop 4 xs) k 0 ∷ []))
    ∙ ap checksum_of (sym (take-suc (drop 4 xs) k 0 (omega (arith, length-drop 4 xs)))) ∙ ap (λ i. checksum_of (take i (drop 4 xs))) z

pub sum_given : (n residue : ℕ) → residue ≡ 0 → Given n ≡ summed n residue
unfolding summed
sum_given n residue e = rw (eq-eqb residue 0 e)

pub sum_off : (n residue : ℕ) → (residue ≡ 0 → ⊥) → Checksum residue ≡ summed n residue
unfolding summed
sum_off n residue e = rw (ne_eqb residue 0 e)

-- ---- by the claim
pub here_none : (xs : List ℕ) → length xs ≡ 0 → Err PastEnd ≡ here_of xs
unfolding here_of
here_none [] e = refl
here_none (x ∷ xs) e = absurd (omega arith)

pub here_some : (xs : List ℕ) → (length xs ≡ 0 → ⊥) → here_of xs ≡ Ok (said_by (claim xs) xs)
unfolding here_of
here_some [] e = absurd (e refl)
here_some (x ∷ xs) e = refl

module _ (xs : List ℕ) (some : length xs ≡ 0 → ⊥) (c : Claim) (e : c ≡ claim xs) where
  said : (d : Claim) → c ≡ d → Ok (said_by d xs) ≡ here_of xs
  said d q = ap (λ k. Ok (said_by k xs)) (sym q ∙ e) ∙ sym (here_some xs some)

  pub here_sync : c ≡ Nothing → Ok (Sync (wrong_at xs)) ≡ here_of xs
  unfolding said_by
  here_sync q = said Nothing q

  pub here_unknown : (k : ℕ) → c ≡ AtLeast k → Ok CutUnknown ≡ here_of xs
  unfolding said_by
  here_unknown k q = said (AtLeast k) q

  module _ (n : ℕ) (q : c ≡ Long n) where
    pub here_short : length xs < n → Ok (CutShort (n - length xs)) ≡ here_of xs
    unfolding said_by
    here_short l = rw (lt-leb n (length xs) l) at (said (Long n) q)

    pub here_whole : n ≤ length xs → Ok (summed n (residue_of n xs)) ≡ here_of xs
    unfolding said_by
    here_whole l = rw (le-leb n (length xs) l) at (said (Long n) q)
