-- A message has 15 bytes or more and is here; what is unsettled needs more bytes than are here, and no more than the longest message has.
-- Assumes nothing.
use Prim.Native.Nat.{ℕ, suc, ◌+◌, ◌*◌, ◌≤◌, ◌<◌}
use mathlib.Core.Path.{◌≡◌, refl}
use mathlib.Core.Bool.{Bool, true, false, cond}
use mathlib.Core.List.{List}
use native.Mathlib.Omega.{arith}
use lib.ListN.{length, get_or, take}
use lib.Dec.{ltb, leb}
use borrow.Author.Tests.{ltb-false, leb-true, leb-false}
use Rattle.octets.specs.Begins.{fit}
use Rattle.octets.specs.declared.Fit.{Fit}
use Rattle.octets.specs.declared.Fit.TheVariants.{Whole, Part, Bad}
use Rattle.octets.proofs.Begins.{Fits, fit_common}
use Rattle.macm.specs.declared.Form.{Form}
use Rattle.macm.specs.declared.Form.TheVariants.{New, Old}
use Rattle.macm.specs.Form.{new_sync, old_sync, count_at, size}
use Rattle.macm.specs.Check.{covered, agrees}
use Rattle.front.specs.declared.Claim.{Claim}
use Rattle.front.specs.declared.Claim.TheVariants.{Nothing, AtLeast, Long}
use Rattle.front.specs.Claim.{cap, counted, claim_by, claim}
use Rattle.front.specs.Look.{Look, unsettled, gap, message, judged, look_by, look, tested_by, tested, need_by, need}

-- the bytes of the longest message
abbrev pub most : ℕ
most = 16 + 24 * cap

abbrev pub ClaimFact : List ℕ → Claim → Type 0
ClaimFact xs Nothing = Unit
ClaimFact xs (AtLeast k) = (length xs < k) × (k ≤ 7)
ClaimFact xs (Long n) = (15 ≤ n) × (n ≤ most)

counted_fact : (f : Form) (xs : List ℕ) → 5 ≤ count_at f → count_at f ≤ 6 → ClaimFact xs (counted f xs)
unfolding counted
counted_fact f xs low high = go (ltb (count_at f) (length xs)) refl (leb (get_or xs (count_at f) 0) cap) refl
  where
    go : (t : Bool) → ltb (count_at f) (length xs) ≡ t → (u : Bool) → leb (get_or xs (count_at f) 0) cap ≡ u
        → ClaimFact xs (cond t (cond u (Long (size f (get_or xs (count_at f) 0))) Nothing) (AtLeast (suc (count_at f))))
    go true p true q = omega (arith, leb-true)
    go true p false q = tt
    go false p u q = omega (arith, ltb-false)

pub claim_fact : (xs : List ℕ) → ClaimFact xs (claim xs)
unfolding claim claim_by
claim_fact xs = go (fit new_sync xs) (fit old_sync xs) (fit_common new_sync xs) (fit_common old_sync xs)
  where
    go : (a b : Fit) → Fits new_sync xs a → Fits old_sync xs b → ClaimFact xs (claim_by a b xs)
    go Whole b p q = counted_fact (New 0 0) xs (omega arith) (omega arith)
    go Part b p q = omega (arith, p.1)
    go Bad Whole p q = counted_fact (Old 0) xs (omega arith) (omega arith)
    go Bad Part p q = omega (arith, q.1)
    go Bad Bad p q = tt

abbrev pub LookFact : List ℕ → Look → Type 0
LookFact xs unsettled = length xs < need xs
LookFact xs gap = Unit
LookFact xs (message n) = (15 ≤ n) × (n ≤ length xs)

pub look_fact : (xs : List ℕ) → LookFact xs (look xs)
unfolding look look_by judged need need_by
look_fact xs = go (claim xs) refl (claim_fact xs)
  where
    go : (c : Claim) → claim xs ≡ c → ClaimFact xs c → LookFact xs (look_by c xs)
    go Nothing p h = tt
    go (AtLeast k) p h = rw p h.0
    go (Long n) p h = test (leb n (length xs)) refl (agrees (take n xs))
      where
        test : (t : Bool) → leb n (length xs) ≡ t → (u : Bool) → LookFact xs (cond t (cond u (message n) gap) unsettled)
        test true l true = omega (arith, leb-true)
        test true l false = tt
        test false l u = rw p (omega (arith, leb-false))

pub need_most : (xs : List ℕ) → need xs ≤ most
unfolding need need_by
need_most xs = go (claim xs) (claim_fact xs)
  where
    go : (c : Claim) → ClaimFact xs c → need_by c ≤ most
    go Nothing h = omega arith
    go (AtLeast k) h = omega arith
    go (Long n) h = omega arith

-- ---- no more bytes are run through the checksum to settle a position than the longest message covers
pub tested_most : (xs : List ℕ) → tested xs ≤ covered most
unfolding tested tested_by
tested_most xs = go (claim xs) (claim_fact xs)
  where
    go : (c : Claim) → ClaimFact xs c → tested_by c xs ≤ covered most
    go Nothing h = omega arith
    go (AtLeast k) h = omega arith
    go (Long n) h = test (leb n (length xs))
      where
        test : (t : Bool) → cond t (covered n) 0 ≤ covered most
        test true = omega arith
        test false = omega arith
