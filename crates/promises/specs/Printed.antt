-- What the two readings, which check, say of a message, as the programs print it. Definitions only.
use Rattle.std.specs.Prelude.{ℕ, zero, suc, List, [], ◌++◌, length, Result, Ok, Err}
use Rattle.macm.specs.declared.Form.{Form}
use Rattle.macm.specs.Read.{head_of, observed_of}
use Rattle.lines.specs.Listing.{head_line}
use Rattle.lines.specs.Rows.{head_text, row_text}
use Rattle.macm.specs.declared.Header.{Header}
use Rattle.refusal.specs.declared.Refusal.{Refusal}

-- the line of its header
abbrev pub line_read : ℕ → List ℕ → List ℕ
line_read position m = head_line position (length m) (head_of m)

-- the rows of its first k observations, and of all
unfoldable pub rows_read_up_to : ℕ → List ℕ → Form → List ℕ → List ℕ
rows_read_up_to zero head f m = []
rows_read_up_to (suc k) head f m = rows_read_up_to k head f m ++ row_text head f (observed_of m k)

abbrev pub rows_read_by : ℕ → Result (Header × ℕ) Refusal → List ℕ → List ℕ
rows_read_by position (Err r) m = []
rows_read_by position (Ok (h, n)) m = rows_read_up_to n (head_text position h) h.form m

abbrev pub rows_read : ℕ → List ℕ → List ℕ
rows_read position m = rows_read_by position (head_of m) m
