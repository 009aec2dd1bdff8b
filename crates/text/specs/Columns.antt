-- Columns of a line: a number and the byte behind it, a word before it. Definitions only.
use Rattle.std.specs.Prelude.{ℕ, List, [], ◌∷◌, ◌++◌}
use Rattle.text.specs.Digits.{decimal}

-- the byte behind a column, and behind a line
abbrev pub space : ℕ
space = 32

abbrev pub newline : ℕ
newline = 10

abbrev pub number_text : ℕ → ℕ → List ℕ
number_text n behind = decimal n ++ (behind ∷ [])

abbrev pub count_text : List ℕ → ℕ → ℕ → List ℕ
count_text before n behind = before ++ number_text n behind
