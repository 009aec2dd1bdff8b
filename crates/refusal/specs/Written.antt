-- The number and the length for each case of what writing answers: where it refuses, the length is zero. Definitions only.
use Rattle.std.specs.Prelude.{ℕ, Result, Ok, Err}
use Rattle.refusal.specs.Numbers.{number_of}
use Rattle.refusal.specs.declared.Refusal.{Refusal}

abbrev pub written_number : Result ℕ Refusal → ℕ
written_number (Err r) = number_of r
written_number (Ok n) = 0

abbrev pub written_length : Result ℕ Refusal → ℕ
written_length (Err r) = 0
written_length (Ok n) = n
