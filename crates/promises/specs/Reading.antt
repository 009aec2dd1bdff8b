-- The one reading that 01 had before E5 read header and observations apart, and what it is of the two answers. Definitions only.
use Rattle.std.specs.Prelude.{ℕ, cond, List, ltb, eqb, Result, Ok, Err}
use Rattle.octets.specs.Parts.{part}
use Rattle.refusal.specs.declared.Refusal.{Refusal}
use Rattle.refusal.specs.declared.Refusal.TheVariants.{NoObservation}
use Rattle.macm.specs.declared.Form.{Form}
use Rattle.macm.specs.declared.Header.{Header}
use Rattle.macm.specs.declared.Observation.{Observation}
use Rattle.macm.specs.Form.{observation_at}
use Rattle.macm.specs.Check.{verdict}
use Rattle.macm.specs.Observation.{observation_of}
use Rattle.macm.specs.Read.{header_of}

-- a refusal; the header of a message without observations; or header, count and the observation
pub data Reading : Type 0 where
  not_read : Refusal → Reading
  header_only : Header → Reading
  observed : Header → ℕ → Observation → Reading

-- of an accepted message with n observations: observation j from the 24 bytes at its own place; 5 if j is n or more, save index 0, which is
-- so with n = 0 alone: that gives the header and says that there is no observation
unfoldable pub read_as : Form → ℕ → List ℕ → ℕ → Reading
read_as f n m j =
    cond (ltb j n)
    (observed (header_of f m) n (observation_of (part (observation_at f j) 24 m)))
    (cond (eqb j 0) (header_only (header_of f m)) (not_read NoObservation))

unfoldable pub read_by : Result (Form × ℕ) Refusal → List ℕ → ℕ → Reading
read_by (Err r) m j = not_read r
read_by (Ok (f, n)) m j = read_as f n m j

unfoldable pub read_of : List ℕ → ℕ → Reading
read_of m j = read_by (verdict m) m j

-- ---- from the header's answer and the observation's at index j: the one reading at j
abbrev pub together : ℕ → Result (Header × ℕ) Refusal → Result Observation Refusal → Reading
together j (Err r) o = not_read r
together j (Ok (h, n)) (Err r) = cond (eqb j 0) (header_only h) (not_read r)
together j (Ok (h, n)) (Ok o) = observed h n o

-- ---- and back: the header's answer from the reading at index 0, an observation's from the reading at its index
abbrev pub head_from : Reading → Result (Header × ℕ) Refusal
head_from (not_read r) = Err r
head_from (header_only h) = Ok (h, 0)
head_from (observed h n o) = Ok (h, n)

abbrev pub observed_from : Reading → Result Observation Refusal
observed_from (not_read r) = Err r
observed_from (header_only h) = Err NoObservation
observed_from (observed h n o) = Ok o
