-- E8: calls for breaks, one a message, as a host makes them. Definitions only.
use Rattle.std.specs.Prelude.{ℕ, ◌*◌, ◌≡◌, List, [], ◌∷◌, length, take, Result, Ok, Err}
use Rattle.octets.specs.Numbers.{Bytes}
use Rattle.refusal.specs.declared.Refusal.{Refusal}
use Rattle.macm.specs.Read.{head_of}
use Rattle.macm.specs.Check.{verdict}
use Rattle.macm.specs.Answers.{check_number}
use Rattle.history.specs.Words.{fresh_words}
use Rattle.history.specs.Breaks.{Entry, numbers_of}
use Rattle.history.specs.Calls.{next_call}
use Rattle.promises.specs.Run.{Run}
use Rattle.promises.specs.Run as run
use Rattle.macm.specs.declared.Header.{Header}

-- what a call gives: a refusal, or the numbers that it says are listed
pub data Told : Type 0 where
  refused : Refusal → Told
  listed : List ℕ → Told

abbrev pub told_by : Result ℕ Refusal → List ℕ → Told
told_by (Err r) list = refused r
told_by (Ok n) list = listed (take (3 * n) list)

-- the history goes from call to call as each leaves it; each is lent a list of its own, in which anything may stand
unfoldable pub calls_from : List ℕ → (ℕ → List ℕ) → List (List ℕ) → List Told
calls_from ws lists [] = []
calls_from ws lists (m ∷ ms) = let c = next_call m ws (lists (length ms)) in told_by c.answer c.list ∷ calls_from c.words lists ms

-- from a fresh history
abbrev pub calls : ℕ → (ℕ → List ℕ) → List (List ℕ) → List Told
calls type lists ms = calls_from (fresh_words type) lists ms

-- what the messages' entries ask of the calls; what is no message is refused as reading its header refuses it
abbrev pub owed_by : Result (Header × ℕ) Refusal → List Entry → Told
owed_by (Err r) entries = refused r
owed_by (Ok (h, n)) entries = listed (numbers_of entries)

unfoldable pub owed : List (List ℕ) → List (List Entry) → List Told
owed [] lists = []
owed (m ∷ ms) [] = []
owed (m ∷ ms) (entries ∷ later) = owed_by (head_of m) entries ∷ owed ms later

-- ---- which messages
abbrev pub Every : (List ℕ → Type 0) → List (List ℕ) → Type 0
Every P [] = Unit
Every P (m ∷ ms) = P m × Every P ms

-- bytes that the message check accepts
pub record Message (m : List ℕ) : Type 0 where
  pub bytes : Bytes m
  pub accepted : check_number (verdict m) ≡ 0

-- those that a run gives, in order
abbrev pub given_in : Run → List (List ℕ)
given_in (run.refused r) = []
given_in run.unfinished = []
given_in (run.ended g) = []
given_in (run.gave g m r) = m ∷ given_in r
