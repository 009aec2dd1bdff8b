-- The reason at the first byte says a message is given exactly where the division has one. Assumes nothing.
use Rattle.std.specs.Prelude.{Result, Ok, Err}
use Prim.Native.Nat.{ℕ, ◌+◌, ◌-◌, ◌≤◌}
use mathlib.Core.Path.{◌≡◌, refl, sym, ap, ◌∙◌}
use mathlib.Core.Bool.{Bool, true, false, cond}
use mathlib.Core.List.{List, [], ◌∷◌}
use native.Mathlib.Omega.{arith}
use lib.ListN.{length, take, drop}
use lib.Seq.{length-take-le}
use lib.Dec.{leb, eqb}
use borrow.Author.Tests.{leb-true, eqb-true, eqb-false}
use Rattle.octets.specs.Checksum.{checksum_of}
use Rattle.octets.proofs.Parts.{drop_take}
use Rattle.macm.specs.Check.{agrees}
use Rattle.macm.proofs.Residue.{residue_zero, zero_agrees}
use Rattle.front.specs.declared.Claim.{Claim}
use Rattle.front.specs.declared.Claim.TheVariants.{Nothing, AtLeast, Long}
use Rattle.front.specs.Claim.{claim}
use Rattle.front.specs.Look.{judged, look_by, look}
use Rattle.front.proofs.Bounds.{ClaimFact, claim_fact}
use Rattle.division.specs.Division.{length_of, stands}
use Rattle.division.proofs.DivideSteps.{look_nil}
use Rattle.refusal.specs.declared.Refusal.{Refusal}
use Rattle.reason.specs.declared.Reason.{Reason}
use Rattle.reason.specs.declared.Reason.TheVariants.{Inside, Given, Sync, CutUnknown, CutShort, Checksum}
use Rattle.reason.specs.Reason.{residue_of, summed, said_by, here_of}

-- how long the message is that stands there, by the reason
abbrev pub Stands : List ℕ → Result Reason Refusal → Type 0
Stands xs (Err r) = stands xs ≡ 0
Stands xs (Ok (Inside q)) = ⊥
Stands xs (Ok (Given n)) = (stands xs ≡ n) × (15 ≤ n) × (n ≤ length xs)
Stands xs (Ok (Sync k)) = stands xs ≡ 0
Stands xs (Ok CutUnknown) = stands xs ≡ 0
Stands xs (Ok (CutShort n)) = stands xs ≡ 0
Stands xs (Ok (Checksum residue)) = stands xs ≡ 0

-- the residue is 0 exactly if the checksum agrees
module _ (xs : List ℕ) (n : ℕ) (long : 15 ≤ n) (here : n ≤ length xs) where
  residue_is : checksum_of (drop 4 (take n xs)) ≡ residue_of n xs
  residue_is = let z : 4 + (n - 4) ≡ n = omega arith in ap (λ k. checksum_of (drop 4 (take k xs))) (sym z) ∙ ap checksum_of (drop_take 4 (n - 4) xs)

  agrees_zero : agrees (take n xs) ≡ true → residue_of n xs ≡ 0
  agrees_zero e = sym residue_is ∙ residue_zero (take n xs) (omega (arith, length-take-le n xs here)) e

  zero_agrees_with : residue_of n xs ≡ 0 → agrees (take n xs) ≡ true
  zero_agrees_with e = zero_agrees (take n xs) (omega (arith, length-take-le n xs here)) (residue_is ∙ e)

said_stands : (xs : List ℕ) (c : Claim) → claim xs ≡ c → ClaimFact xs c → Stands xs (Ok (said_by c xs))
unfolding said_by summed stands length_of look look_by judged
said_stands xs Nothing e h = rw e
said_stands xs (AtLeast k) e h = rw e
said_stands xs (Long n) e h = go (leb n (length xs)) refl (eqb (residue_of n xs) 0) refl (agrees (take n xs)) refl
  where
    not : true ≡ false → ⊥
    not e = let z : ◌≡◌ {A = ℕ} 0 1 = cc in omega arith

    go : (a : Bool) → leb n (length xs) ≡ a → (b : Bool) → eqb (residue_of n xs) 0 ≡ b → (t : Bool) → agrees (take n xs) ≡ t
        → Stands xs (Ok (cond a (cond b (Given n) (Checksum (residue_of n xs))) (CutShort (n - length xs))))
    go true p true q true r = (rw (e, p, r), h.0, leb-true n (length xs) p)
    go true p true q false r = absurd (not (sym (zero_agrees_with xs n h.0 (leb-true n (length xs) p) (eqb-true (residue_of n xs) 0 q)) ∙ r))
    go true p false q true r = absurd (eqb-false (residue_of n xs) 0 q (agrees_zero xs n h.0 (leb-true n (length xs) p) r))
    go true p false q false r = rw (e, p, r)
    go false p b q t r = rw (e, p)

pub here_stands : (xs : List ℕ) → Stands xs (here_of xs)
unfolding here_of stands length_of
here_stands [] = rw look_nil
here_stands (x ∷ xs) = said_stands (x ∷ xs) (claim (x ∷ xs)) refl (claim_fact (x ∷ xs))
