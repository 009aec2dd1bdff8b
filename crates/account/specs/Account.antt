-- The lines of an account: each position of a recording, its reason and the reason's value. Definitions only.
use Rattle.std.specs.Prelude.{ℕ, zero, suc, ◌+◌, cond, List, [], ◌∷◌, ◌++◌, length, ltb, Result, Ok, Err}
use Rattle.text.specs.Word.{word}
use Rattle.text.specs.Digits.{digits}
use Rattle.text.specs.Columns.{space, newline, number_text, count_text}
use Rattle.refusal.specs.Numbers.{number_of}
use Rattle.reason.specs.declared.Reason.{Reason}
use Rattle.reason.specs.declared.Reason.TheVariants.{Inside, Given, Sync, CutUnknown, CutShort, Checksum}
use Rattle.reason.specs.Reason.{reason_of}
use Rattle.refusal.specs.declared.Refusal.{Refusal}

-- the reason and its value; no position of a recording is refused
abbrev pub said_text : Result Reason Refusal → List ℕ
said_text (Err r) = count_text (word "refused ") (number_of r) newline
said_text (Ok (Inside q)) = count_text (word "inside ") q newline
said_text (Ok (Given n)) = count_text (word "given ") n newline
said_text (Ok (Sync k)) = count_text (word "sync ") k newline
said_text (Ok CutUnknown) = word "short -\n"
said_text (Ok (CutShort n)) = count_text (word "short ") n newline
said_text (Ok (Checksum residue)) = word "checksum " ++ (digits 16 2 residue ++ (newline ∷ []))

abbrev pub reason_text : ℕ → Result Reason Refusal → List ℕ
reason_text p r = number_text p space ++ said_text r

-- the lines of k positions from one on, each with its reason
unfoldable pub lines_of : (ℕ → Result Reason Refusal) → ℕ → ℕ → List ℕ
lines_of reason from zero = []
lines_of reason from (suc k) = lines_of reason from k ++ reason_text (from + k) (reason (from + k))

-- every position of the recording in turn
abbrev pub account_text : List ℕ → List ℕ
account_text s = lines_of (reason_of s) 0 (length s)

-- with a heading; of a recording of more than 61,440 bytes no more than that it is longer
abbrev pub report_text : List ℕ → List ℕ
report_text s = cond (ltb 61440 (length s)) (word "longer than 61440 bytes\n") (word "at reason value\n" ++ account_text s)
