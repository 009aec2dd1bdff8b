-- The reason at a position of a recording is true of the division and the bytes, and no other is. Assumes nothing.
use Rattle.std.specs.Prelude.{Result, Ok, Err}
use Prim.Native.Nat.{ℕ, ◌+◌, ◌-◌, ◌≤◌, ◌<◌}
use mathlib.Core.Path.{◌≡◌, refl, sym, ap, ◌∙◌}
use mathlib.Core.Logic.{inl, inr}
use mathlib.Core.Bool.{Bool, true, false, cond}
use mathlib.Core.List.{List}
use native.Mathlib.Omega.{arith}
use lib.ListN.{length, take, drop, length-drop}
use lib.Seq.{length-take-le, get_or-drop}
use lib.Dec.{ltb, leb, eqb}
use borrow.Author.Tests.{ltb-true, ltb-false, le-ltb, leb-true, leb-false, eqb-false}
use Rattle.octets.specs.Numbers.{Bytes}
use Rattle.front.specs.declared.Claim.{Claim}
use Rattle.front.specs.declared.Claim.TheVariants.{Nothing, AtLeast, Long}
use Rattle.front.specs.Claim.{claim}
use Rattle.division.specs.Division.{stands}
use Rattle.reason.specs.declared.Reason.{Reason}
use Rattle.reason.specs.declared.Reason.TheVariants.{Inside, Given as GivenHere, Sync, CutUnknown, CutShort, Checksum}
use Rattle.reason.specs.Reason.{residue_of, summed, said_by, here_of, cover_of, reason_of}
use Rattle.reason.proofs.HereSteps.{here_none, here_some, here_sync, here_unknown, here_short, here_whole, sum_off}
use Rattle.reason.proofs.HereStands.{Stands, here_stands}
use Rattle.reason.proofs.CoverSteps.{at_end, at_inside}
use Rattle.promises.specs.Given.{Given, Uncovered}
use Rattle.promises.specs.Reason.{messages, Free, Holds, CoverBegins}
use Rattle.promises.proofs.Stands.{stands_le}
use Rattle.promises.proofs.GivenIff.{apart, given_stands, stands_given}
use Rattle.promises.proofs.ClaimSays.{ClaimSays, claim_says, claims_long, ends_at_least, neither_nothing}
use Rattle.promises.proofs.Located.{cover_begins, cover_is}
use Rattle.refusal.specs.declared.Refusal.{Refusal}

-- what stands there is said to be given
pub given_here : (xs : List ℕ) (n : ℕ) → stands xs ≡ n → 0 < n → here_of xs ≡ Ok (GivenHere n)
given_here xs n e l = go (here_of xs) (here_stands xs)
  where
    go : (r : Result Reason Refusal) → Stands xs r → r ≡ Ok (GivenHere n)
    go (Err f) h = absurd (omega (arith, h))
    go (Ok (Inside q)) h = absurd h
    go (Ok (GivenHere k)) h = ap (λ j. Ok (GivenHere j)) (sym h.0 ∙ e)
    go (Ok (Sync k)) h = absurd (omega (arith, h))
    go (Ok CutUnknown) h = absurd (omega (arith, h))
    go (Ok (CutShort k)) h = absurd (omega (arith, h))
    go (Ok (Checksum t)) h = absurd (omega (arith, h))

module _ (s : List ℕ) (p : ℕ) where
  -- a position that no message covers, by the bytes from it on
  pub here_of_lem : Uncovered (messages s) p → reason_of s p ≡ here_of (drop p s)
  unfolding reason_of
  here_of_lem u = go (ltb p (length s)) refl
    where
      go : (b : Bool) → ltb p (length s) ≡ b → reason_of s p ≡ here_of (drop p s)
      go true e = rw (e, cover_is s p p (inl (refl, u)), le-ltb p p (omega arith))
      go false e = let l = ltb-false p (length s) e in sym (at_end s p l) ∙ here_none (drop p s) (omega (arith, length-drop p s))

  covered_within : (q : ℕ) (m : List ℕ) → Given (messages s) q m → q + length m ≤ length s
  covered_within q m g = let h = given_stands s q m g in omega (arith, h.0, h.1, stands_le (drop q s), length-drop q s)

  -- ---- it holds
  module _ (l : p < length s) (u : Uncovered (messages s) p) where
    some : length (drop p s) ≡ 0 → ⊥
    some e = omega (arith, length-drop p s)

    free : stands (drop p s) ≡ 0 → Free s p
    free e = record { there = l; none_given = λ m g. let h = given_stands s p m g in absurd (omega (arith, h.0, h.1)); none_covers = u }

    said_holds : (c : Claim) → claim (drop p s) ≡ c → ClaimSays (drop p s) c → Stands (drop p s) (Ok (said_by c (drop p s))) → Holds s p (Ok (said_by c (drop p s)))
    unfolding said_by summed
    said_holds Nothing e h t = (free t, h)
    said_holds (AtLeast k) e h t = (free t, h)
    said_holds (Long n) e h t = go (leb n (length (drop p s))) refl (eqb (residue_of n (drop p s)) 0) refl t
      where
        go : (a : Bool) → leb n (length (drop p s)) ≡ a → (b : Bool) → eqb (residue_of n (drop p s)) 0 ≡ b
            → Stands (drop p s) (Ok (cond a (cond b (GivenHere n) (Checksum (residue_of n (drop p s)))) (CutShort (n - length (drop p s)))))
            → Holds s p (Ok (cond a (cond b (GivenHere n) (Checksum (residue_of n (drop p s)))) (CutShort (n - length (drop p s)))))
        go true x true y t = (take n (drop p s), stands_given s p n t.0 (omega (arith, t.1)) u, sym (length-take-le n (drop p s) t.2))
        go true x false y t = (free t, (n, record { claims = h; here = leb-true n (length (drop p s)) x; off = refl; never_zero = eqb-false (residue_of n (drop p s)) 0 y }))
        go false x b y t =
            let m = leb-false n (length (drop p s)) x in
            let z : length (drop p s) + (n - length (drop p s)) ≡ n = omega arith in
            (free t, omega arith, rw z h)

    here_holds : Bytes (drop p s) → Holds s p (here_of (drop p s))
    here_holds b =
        rw (here_some (drop p s) some)
        (said_holds (claim (drop p s)) refl (claim_says (drop p s) b) (rw (here_some (drop p s) some) at (here_stands (drop p s))))

  module _ (bytes : Bytes s) where
    from_there : Bytes (drop p s)
    from_there i = rw (get_or-drop p s i 0) (bytes (p + i))

    pub holds : Holds s p (reason_of s p)
    holds = go (ltb p (length s)) refl (cover_begins s p)
      where
        go : (b : Bool) → ltb p (length s) ≡ b → CoverBegins s p (cover_of s p) → Holds s p (reason_of s p)
        go false e h = let l = ltb-false p (length s) e in rw (← at_end s p l) (refl, l)
        go true e (inl h) = rw (here_of_lem h.1) (here_holds (ltb-true p (length s) e) h.1 from_there)
        go true e (inr h) = rw (← at_inside s p (ltb-true p (length s) e) (cover_of s p) refl h.0) (h.1.0, h.1.1, h.0, h.1.2)

    -- ---- and no other does
    pub only : (r : Result Reason Refusal) → Holds s p r → reason_of s p ≡ r
    only (Err f) h = sym (at_end s p h.1) ∙ ap Err (sym h.0)
    only (Ok (Inside q)) h =
        let l : p < length s = omega (arith, covered_within q h.0 h.1, h.3) in
        sym (at_inside s p l q (sym (cover_is s p q (inr (h.2, (h.0, h.1, h.3))))) h.2)
    only (Ok (GivenHere n)) h =
        let g = given_stands s p h.0 h.1 in
        here_of_lem (λ q m k j. apart (messages s) p q h.0 m h.1 k j) ∙ given_here (drop p s) n (g.0 ∙ sym h.2) (omega (arith, g.1, h.2))
    only (Ok (Sync k)) h =
        let n = neither_nothing (drop p s) k h.1 in
        here_of_lem h.0.none_covers ∙ sym (here_sync (drop p s) (some h.0.there h.0.none_covers) (claim (drop p s)) refl n.0) ∙ ap (λ j. Ok (Sync j)) n.1
    only (Ok CutUnknown) h =
        let n = ends_at_least (drop p s) h.1 in
        here_of_lem h.0.none_covers ∙ sym (here_unknown (drop p s) (some h.0.there h.0.none_covers) (claim (drop p s)) refl n.0 n.1)
    only (Ok (CutShort n)) h =
        let k = length (drop p s) + n in
        let c = claims_long (drop p s) from_there k h.2 in
        let z : k - length (drop p s) ≡ n = omega arith in
        here_of_lem h.0.none_covers ∙ sym (here_short (drop p s) (some h.0.there h.0.none_covers) (claim (drop p s)) refl k c (omega (arith, h.1))) ∙ ap (λ j. Ok (CutShort j)) z
    only (Ok (Checksum r)) h =
        let n = h.1.0 in
        let o = h.1.1 in
        let c = claims_long (drop p s) from_there n o.claims in
        let w : residue_of n (drop p s) ≡ 0 → ⊥ = λ z. o.never_zero (o.off ∙ z) in
        here_of_lem h.0.none_covers ∙ sym (here_whole (drop p s) (some h.0.there h.0.none_covers) (claim (drop p s)) refl n c o.here) ∙ ap Ok (sym (sum_off n (residue_of n (drop p s)) w)) ∙ ap (λ j. Ok (Checksum j)) (sym o.off)
