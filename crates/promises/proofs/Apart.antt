-- Header and observations, read apart, say together what the one reading said, for every message and every index, refusals included. Assumes nothing.
use Rattle.std.specs.Prelude.{Result, Ok, Err}
use Prim.Native.Nat.{ℕ, zero, suc}
use mathlib.Core.Path.{◌≡◌, refl, sym, ap₂, ◌∙◌}
use mathlib.Core.Bool.{Bool, true, false, cond}
use mathlib.Core.List.{List}
use native.Mathlib.Omega.{arith}
use lib.Dec.{ltb, eqb}
use borrow.Author.Tests.{lt-ltb, ltb-true, ltb-false}
use Rattle.octets.specs.Parts.{part}
use Rattle.refusal.specs.declared.Refusal.TheVariants.{NoObservation}
use Rattle.macm.specs.declared.Form.{Form}
use Rattle.macm.specs.Form.{observation_at}
use Rattle.macm.specs.Check.{verdict}
use Rattle.macm.specs.Observation.{observation_of}
use Rattle.macm.specs.Read.{header_of, head_of, observed_of}
use Rattle.macm.proofs.CheckSteps.{fine}
use Rattle.macm.proofs.ReadSteps.{head_refused, head_accepted, observed_refused, observed_accepted, observed_there, observed_far}
use Rattle.promises.specs.Reading.{Reading, not_read, header_only, observed, read_as, read_by, read_of, together, head_from, observed_from}
use Rattle.refusal.specs.declared.Refusal.{Refusal}

module _ (m : List ℕ) (f : Form) (n : ℕ) (accepted : verdict m ≡ Ok (f, n)) where
  there : (j : ℕ) (a : Bool) → ltb j n ≡ a → cond a (Ok (observation_of (part (observation_at f j) 24 m))) (Err NoObservation) ≡ observed_of m j
  there j true e = observed_there m j f n (fine m f n accepted).long (ltb-true j n e) _ refl ∙ observed_accepted m j f n accepted
  there j false e = observed_far m j f n (fine m f n accepted).long (ltb-false j n e) ∙ observed_accepted m j f n accepted

  together_as : (j : ℕ) → read_as f n m j ≡ together j (head_of m) (observed_of m j)
  unfolding read_as
  together_as j = go (ltb j n) refl ∙ ap₂ (λ h o. together j h o) (head_accepted m f n accepted) (there j (ltb j n) refl)
    where
      o : Bool → Reading
      o a = cond a (observed (header_of f m) n (observation_of (part (observation_at f j) 24 m))) (cond (eqb j 0) (header_only (header_of f m)) (not_read NoObservation))

      go : (a : Bool) → ltb j n ≡ a → o a ≡ together j (Ok (header_of f m, n)) (cond a (Ok (observation_of (part (observation_at f j) 24 m))) (Err NoObservation))
      go true e = refl
      go false e = refl

  head_as : head_of m ≡ head_from (read_as f n m 0)
  unfolding read_as
  head_as = sym (head_accepted m f n accepted) ∙ go n
    where
      go : (k : ℕ) → Ok (header_of f m, k) ≡ head_from (cond (ltb 0 k) (observed (header_of f m) k (observation_of (part (observation_at f 0) 24 m))) (header_only (header_of f m)))
      go zero = refl
      go (suc k) = rw (lt-ltb 0 (suc k) (omega arith))

  observed_as_lem : (j : ℕ) → observed_of m j ≡ observed_from (read_as f n m j)
  unfolding read_as
  observed_as_lem j = sym (there j (ltb j n) refl) ∙ go (ltb j n) (eqb j 0)
    where
      go : (a b : Bool) → cond a (Ok (observation_of (part (observation_at f j) 24 m))) (Err NoObservation)
          ≡ observed_from (cond a (observed (header_of f m) n (observation_of (part (observation_at f j) 24 m))) (cond b (header_only (header_of f m)) (not_read NoObservation)))
      go true b = refl
      go false true = refl
      go false false = refl

-- from the two answers the one reading is given
pub read_together : (m : List ℕ) (j : ℕ) → read_of m j ≡ together j (head_of m) (observed_of m j)
unfolding read_of read_by
read_together m j = go (verdict m) refl
  where
    go : (v : Result (Form × ℕ) Refusal) → verdict m ≡ v → read_by v m j ≡ together j (head_of m) (observed_of m j)
    go (Err r) e = ap₂ (λ h o. together j h o) (head_refused m r e) (observed_refused m j r e)
    go (Ok (f, n)) e = together_as m f n e j

-- and back: of the readings at 0 and at j the two answers
pub head_back : (m : List ℕ) → head_of m ≡ head_from (read_of m 0)
unfolding read_of read_by
head_back m = go (verdict m) refl
  where
    go : (v : Result (Form × ℕ) Refusal) → verdict m ≡ v → head_of m ≡ head_from (read_by v m 0)
    go (Err r) e = sym (head_refused m r e)
    go (Ok (f, n)) e = head_as m f n e

pub observed_back : (m : List ℕ) (j : ℕ) → observed_of m j ≡ observed_from (read_of m j)
unfolding read_of read_by
observed_back m j = go (verdict m) refl
  where
    go : (v : Result (Form × ℕ) Refusal) → verdict m ≡ v → observed_of m j ≡ observed_from (read_by v m j)
    go (Err r) e = sym (observed_refused m j r e)
    go (Ok (f, n)) e = observed_as_lem m f n e j
