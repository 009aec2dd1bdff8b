-- The reason at the first byte is settled by as many bytes as the longest message has. Assumes nothing.
use Rattle.std.specs.Prelude.{Ok}
use Prim.Native.Nat.{ℕ, zero, suc, ◌+◌, ◌-◌, ◌≤◌, ◌<◌}
use mathlib.Core.Path.{◌≡◌, refl, sym, ap, ap₂, ◌∙◌}
use mathlib.Core.Bool.{Bool, true, false, cond}
use mathlib.Core.List.{List, [], ◌∷◌}
use native.Mathlib.Omega.{arith}
use lib.ListN.{length, take, drop, take-append-drop}
use lib.Seq.{length-take-le, take_all, take-take, take-nil}
use lib.Dec.{leb, eqb}
use borrow.Author.Tests.{leb-true, leb-false}
use Rattle.octets.specs.Begins.{common}
use Rattle.octets.specs.Checksum.{checksum_of}
use Rattle.octets.proofs.Parts.{drop_take}
use Rattle.macm.specs.Form.{new_sync, old_sync}
use Rattle.front.specs.declared.Claim.{Claim}
use Rattle.front.specs.declared.Claim.TheVariants.{Nothing, AtLeast, Long}
use Rattle.front.specs.Claim.{claim}
use Rattle.front.proofs.Bounds.{ClaimFact, claim_fact}
use Rattle.front.proofs.Settled.{keep_claim, claim_append}
use Rattle.division.specs.Walk.{further}
use Rattle.reason.specs.declared.Reason.TheVariants.{Sync}
use Rattle.reason.specs.Reason.{residue_of, summed, here_of}
use Rattle.reason.proofs.HereSteps.{here_sync, here_whole}

common_front : (t xs : List ℕ) (k : ℕ) → length t ≤ k → common t (take k xs) ≡ common t xs
unfolding common
common_front [] xs k l = refl
common_front (t ∷ ts) [] k l = ap (common (t ∷ ts)) (take-nil k)
common_front (t ∷ ts) (x ∷ xs) zero l = absurd (omega arith)
common_front (t ∷ ts) (x ∷ xs) (suc k) l = ap (λ n. cond (eqb x t) (suc n) 0) (common_front ts xs k (omega arith))

residue_front : (xs : List ℕ) (k n : ℕ) → 4 ≤ k → n ≤ k → residue_of n (take k xs) ≡ residue_of n xs
residue_front xs k n l m =
    let z : 4 + (k - 4) ≡ k = omega arith in
    ap (λ j. checksum_of (take (n - 4) (drop 4 (take j xs)))) (sym z) ∙ ap (λ ys. checksum_of (take (n - 4) ys)) (drop_take 4 (k - 4) xs)
    ∙ ap checksum_of (take-take (n - 4) (k - 4) (drop 4 xs) (omega arith))

pub here_front : (xs : List ℕ) (k : ℕ) → 6136 ≤ k → here_of (take k xs) ≡ here_of xs
here_front xs k l = go (leb (length xs) k) refl
  where
    kept : claim xs ≡ keep_claim (claim (take k xs)) (claim xs)
    kept = rw take-append-drop at (claim_append (take k xs) (drop k xs))

    some : k < length xs → length xs ≡ 0 → ⊥
    some m e = omega arith

    cut : k < length xs → (c : Claim) → c ≡ claim (take k xs) → ClaimFact (take k xs) c → claim xs ≡ keep_claim c (claim xs) → here_of (take k xs) ≡ here_of xs
    cut m Nothing e h q =
        sym (here_sync (take k xs) (λ z. omega (arith, length-take-le k xs (omega arith))) Nothing e refl)
        ∙ ap₂ (λ i j. Ok (Sync (suc (further i j)))) (common_front new_sync xs k (omega arith)) (common_front old_sync xs k (omega arith)) ∙ here_sync xs (some m) Nothing (sym q) refl
    cut m (AtLeast j) e h q = absurd (omega (arith, h.0, h.1, length-take-le k xs (omega arith)))
    cut m (Long n) e h q =
        sym (here_whole (take k xs) (λ z. omega (arith, length-take-le k xs (omega arith))) (Long n) e n refl (omega (arith, h.1, length-take-le k xs (omega arith))))
        ∙ ap (λ r. Ok (summed n r)) (residue_front xs k n (omega arith) (omega (arith, h.1))) ∙ here_whole xs (some m) (Long n) (sym q) n refl (omega (arith, h.1))

    go : (b : Bool) → leb (length xs) k ≡ b → here_of (take k xs) ≡ here_of xs
    go true e = ap here_of (take_all k xs (leb-true (length xs) k e))
    go false e = cut (leb-false (length xs) k e) (claim (take k xs)) refl (claim_fact (take k xs)) kept
