-- The listing's lines, as 01 has them. Definitions only.
use Rattle.std.specs.Prelude.{ℕ, List, [], ◌++◌, length, Result, Ok, Err}
use Rattle.text.specs.Word.{word}
use Rattle.text.specs.Columns.{space, newline, number_text, count_text}
use Rattle.macm.specs.Read.{claimed_head}
use Rattle.macm.specs.declared.Form.{Form}
use Rattle.macm.specs.declared.Form.TheVariants.{New, Old}
use Rattle.macm.specs.declared.Header.{Header}
use Rattle.refusal.specs.declared.Refusal.{Refusal}

abbrev pub form_text : Form → List ℕ
form_text (New signal tfom) = word "v2 "
form_text (Old version) = word "v1 "

-- position, bytes, form, observations, time
abbrev pub message_text : ℕ → ℕ → Header → ℕ → List ℕ
message_text position bytes h count = number_text position space ++ (number_text bytes space ++ (form_text h.form ++ (number_text count space ++ number_text h.time newline)))

abbrev pub head_line : ℕ → ℕ → Result (Header × ℕ) Refusal → List ℕ
head_line position bytes (Err r) = []
head_line position bytes (Ok (h, count)) = message_text position bytes h count

-- the line of a message m, as its bytes claim it
abbrev pub line_text : ℕ → List ℕ → List ℕ
line_text position m = head_line position (length m) (claimed_head m)

-- all bytes, all messages, all gap bytes
abbrev pub end_text : ℕ → ℕ → ℕ → List ℕ
end_text bytes messages gap = count_text (word "end ") bytes space ++ (count_text (word "messages ") messages space ++ count_text (word "gap ") gap newline)
