-- How many bits a field has. Definitions only.
use Rattle.std.specs.Prelude.{ℕ, min}
use Rattle.bits.specs.declared.Field.{Field}

-- a width above 64 counts as 64
abbrev pub width_of : Field → ℕ
width_of field = min field.width 64
