-- From a position that no message covers to the next one, as the account goes over a recording. Assumes nothing.
use Rattle.std.specs.Prelude.{Result, Ok, Err}
use Prim.Native.Nat.{ℕ, ◌+◌, ◌≤◌, ◌<◌}
use mathlib.Core.Path.{◌≡◌, refl, sym, ◌∙◌}
use mathlib.Core.List.{List}
use native.Mathlib.Omega.{arith}
use lib.ListN.{length, drop}
use borrow.Author.Tests.{lt-ltb, le-ltb}
use Rattle.division.specs.Division.{stands, divide}
use Rattle.reason.specs.declared.Reason.{Reason}
use Rattle.reason.specs.declared.Reason.TheVariants.{Inside, Given, Sync, CutUnknown, CutShort, Checksum}
use Rattle.reason.specs.Reason.{here_of, cover_in, cover_of, reason_of}
use Rattle.reason.proofs.HereStands.{Stands, here_stands}
use Rattle.reason.proofs.CoverSteps.{Onward, cover_before, cover_gap, cover_message, covered_there, covered_onward, at_inside}
use Rattle.account.specs.Steps.{span_of}
use Rattle.refusal.specs.declared.Refusal.{Refusal}

-- no message that begins before `at` reaches past it
pub record Ahead (s : List ℕ) (at : ℕ) : Type 0 where
  pub within : at ≤ length s
  pub covers : (p : ℕ) → at ≤ p → cover_of s p ≡ cover_in (divide (drop at s) 0) at p

pub ahead_start : (s : List ℕ) → Ahead s 0
ahead_start s = record { within = omega arith; covers = λ p l. refl }

-- what the reasons from there on are, and where the next such position is
pub record Settled (s : List ℕ) (at : ℕ) (r : Result Reason Refusal) : Type 0 where
  pub some : 0 < span_of r
  pub here : reason_of s at ≡ r
  pub inside : (p : ℕ) → at < p → p < at + span_of r → reason_of s p ≡ Ok (Inside at)
  pub next : Ahead s (at + span_of r)

module _ (s : List ℕ) (at : ℕ) (a : Ahead s at) (l : at < length s) where
  here : reason_of s at ≡ here_of (drop at s)
  unfolding reason_of
  here = rw (lt-ltb at (length s) l, a.covers at (omega arith), cover_before (divide (drop at s) 0) at at (omega arith), le-ltb at at (omega arith))

  -- a byte that is gap
  gap : (r : Result Reason Refusal) → here_of (drop at s) ≡ r → span_of r ≡ 1 → stands (drop at s) ≡ 0 → Settled s at r
  gap r e one n = record { some = omega (arith, one); here = here ∙ e; inside = λ p j k. absurd (omega (arith, one)); next = rw one on }
    where
      on : Ahead s (at + 1)
      on = record { within = omega arith; covers = λ p j. a.covers p (omega arith) ∙ cover_gap s at p l n }

  -- a message
  given : (n : ℕ) → here_of (drop at s) ≡ Ok (Given n) → stands (drop at s) ≡ n → 15 ≤ n → n ≤ length (drop at s) → Settled s at (Ok (Given n))
  given n e st long fits = record { some = omega arith; here = here ∙ e; inside = inside; next = record { within = (first at).within; covers = λ p j. a.covers p (omega arith) ∙ covered_onward s at p at n (first p) j } }
    where
      first : (p : ℕ) → Onward s at p at n
      first p = cover_message s at p l n st (omega arith) fits

      inside : (p : ℕ) → at < p → p < at + n → reason_of s p ≡ Ok (Inside at)
      inside p j k = sym (at_inside s p (omega (arith, (first p).within)) at (sym (a.covers p (omega arith) ∙ covered_there s at p at n (first p) k j)) j)

  pub settled : (r : Result Reason Refusal) → r ≡ here_of (drop at s) → Settled s at r
  settled r e = go r (sym e) (rw (← e) at (here_stands (drop at s)))
    where
      go : (r : Result Reason Refusal) → here_of (drop at s) ≡ r → Stands (drop at s) r → Settled s at r
      go (Err f) e h = gap (Err f) e refl h
      go (Ok (Inside q)) e h = absurd h
      go (Ok (Given n)) e h = given n e h.0 h.1 h.2
      go (Ok (Sync k)) e h = gap (Ok (Sync k)) e refl h
      go (Ok CutUnknown) e h = gap (Ok CutUnknown) e refl h
      go (Ok (CutShort n)) e h = gap (Ok (CutShort n)) e refl h
      go (Ok (Checksum t)) e h = gap (Ok (Checksum t)) e refl h
