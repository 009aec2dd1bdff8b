-- What the codes of the two deviations mean, of each the low 4 bits. Definitions only.
use Rattle.std.specs.Prelude.{ℕ, ◌+◌, ◌%◌, List, [], ◌∷◌, get_or}

-- 003's table 1, in millimetres
abbrev pub deviations : List ℕ
deviations = 50 ∷ 75 ∷ 113 ∷ 169 ∷ 253 ∷ 380 ∷ 570 ∷ 854 ∷ 1281 ∷ 2375 ∷ 4750 ∷ 9500 ∷ 19000 ∷ 38000 ∷ 76000 ∷ 152000 ∷ []

-- of the range, in millimetres
abbrev pub range_deviation : ℕ → ℕ
range_deviation code = get_or deviations (code % 16) 0

-- of the ADR, in 1/512 cycle: code n is n + 1
abbrev pub adr_deviation : ℕ → ℕ
adr_deviation code = code % 16 + 1
