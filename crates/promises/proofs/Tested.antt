-- A position is tested exactly where a sync string stands, no earlier given message covers it and its whole length is in the stream, and then the bytes
-- that its checksum covers are run through it. Assumes nothing.
use Prim.Native.Nat.{ℕ, ◌+◌, ◌-◌, ◌≤◌}
use mathlib.Core.Path.{◌≡◌, refl}
use mathlib.Core.Bool.{Bool, true, false, cond}
use mathlib.Core.Logic.{inl, inr}
use mathlib.Core.List.{List}
use native.Mathlib.Omega.{arith}
use lib.ListN.{length, drop}
use lib.Seq.{get_or-drop}
use lib.Dec.{leb}
use borrow.Author.Tests.{le-leb, leb-true, eq-eqb, ne_eqb}
use Rattle.octets.specs.Numbers.{Bytes}
use Rattle.macm.specs.Check.{covered}
use Rattle.front.specs.declared.Claim.{Claim}
use Rattle.front.specs.declared.Claim.TheVariants.{Nothing, AtLeast, Long}
use Rattle.front.specs.Claim.{claim}
use Rattle.front.specs.Look.{tested_by, tested}
use Rattle.reason.specs.Reason.{cover_of}
use Rattle.promises.specs.Given.{Uncovered}
use Rattle.promises.specs.Reason.{messages, Claims, CoverBegins}
use Rattle.promises.specs.Work.{tested_at}
use Rattle.promises.proofs.ClaimSays.{ClaimSays, claim_says, claims_long}
use Rattle.promises.proofs.Located.{cover_begins, cover_is}

module _ (s : List ℕ) (bytes : Bytes s) (p : ℕ) where
  there : Bytes (drop p s)
  there i = rw (get_or-drop p s i 0) (bytes (p + i))

  pub tested_there : Uncovered (messages s) p → (n : ℕ) → Claims (drop p s) n → n ≤ length (drop p s) → tested_at s p ≡ n - 5
  unfolding tested tested_by
  tested_there u n h l = rw (eq-eqb (cover_of s p) p (cover_is s p p (inl (refl, u))), claims_long (drop p s) there n h, le-leb n (length (drop p s)) l)

  pub tested_nowhere_else : (Uncovered (messages s) p → (n : ℕ) → Claims (drop p s) n → n ≤ length (drop p s) → ⊥) → tested_at s p ≡ 0
  unfolding tested tested_by
  tested_nowhere_else never = go (cover_of s p) refl (cover_begins s p)
    where
      here : Uncovered (messages s) p → (c : Claim) → ClaimSays (drop p s) c → tested_by c (drop p s) ≡ 0
      here u Nothing h = refl
      here u (AtLeast k) h = refl
      here u (Long n) h = test (leb n (length (drop p s))) refl
        where
          test : (t : Bool) → leb n (length (drop p s)) ≡ t → cond t (covered n) 0 ≡ 0
          test true e = absurd (never u n h (leb-true n (length (drop p s)) e))
          test false e = refl

      go : (q : ℕ) → cover_of s p ≡ q → CoverBegins s p q → tested_at s p ≡ 0
      go q e (inl h) = rw (eq-eqb (cover_of s p) p (omega (arith, h.0))) (here h.1 (claim (drop p s)) (claim_says (drop p s) there))
      go q e (inr h) = rw (ne_eqb (cover_of s p) p (λ z. omega (arith, h.0)))
