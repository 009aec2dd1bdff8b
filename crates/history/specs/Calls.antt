-- A call: what it answers, and what it leaves of the history's words and of the list. Definitions only.
use Rattle.std.specs.Prelude.{ℕ, ◌≡◌, cond, List, ltb, length, Result, Ok, Err}
use Rattle.octets.specs.Parts.{over}
use Rattle.refusal.specs.declared.Refusal.{Refusal}
use Rattle.refusal.specs.declared.Refusal.TheVariants.{SmallBuffer}
use Rattle.macm.specs.Read.{head_of, claimed_head}
use Rattle.history.specs.Words.{type_in}
use Rattle.history.specs.Appearances.{appearances_in}
use Rattle.history.specs.Breaks.{Kept, numbers_of, after_all, begun}
use Rattle.macm.specs.declared.Header.{Header}

pub record Call : Type 0 where
  pub answer : Result ℕ Refusal
  pub words : List ℕ
  pub list : List ℕ

-- the answer, the words and the list at exit are the call's
pub record Leaves (c : Call) (a : Result ℕ Refusal) (w l : List ℕ) : Type 0 where
  pub answer : a ≡ c.answer
  pub words : w ≡ c.words
  pub list : l ≡ c.list

-- a refusal changes neither
abbrev pub refusing : Refusal → List ℕ → List ℕ → Call
refusing r ws list = record { answer = Err r; words = ws; list = list }

-- the entries at the front of the list; what stands behind them stays
abbrev pub listing : Kept → List ℕ → Call
listing k list = record { answer = Ok (length k.entries); words = k.words; list = over (numbers_of k.entries) list }

-- room for 255 entries
abbrev pub list_numbers : ℕ
list_numbers = 765

-- of a message m, by its header: what refuses the header, then 8 for a list with no room for 255 entries
unfoldable pub call_by : Result (Header × ℕ) Refusal → List ℕ → List ℕ → List ℕ → Call
call_by (Err r) m ws list = refusing r ws list
call_by (Ok (h, n)) m ws list =
    cond (ltb (length list) list_numbers) (refusing SmallBuffer ws list) (listing (after_all (begun ws) (appearances_in (type_in ws) h n m)) list)

-- of a message that is checked, and of one whose checksum has been run before
abbrev pub next_call : List ℕ → List ℕ → List ℕ → Call
next_call m ws list = call_by (head_of m) m ws list

abbrev pub claimed_call : List ℕ → List ℕ → List ℕ → Call
claimed_call m ws list = call_by (claimed_head m) m ws list
