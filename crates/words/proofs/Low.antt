-- The low 32 bits of a signed word are those of its two's complement. Assumes nothing.
use mathlib.Core.Path.{◌≡◌, refl}
use Prim.Native.Nat.{◌^◌, ◌%◌}
use native.Mathlib.Omega.{arith}
use lib.IntN.{ℤ, pos, negsuc}
use Rattle.std.specs.Int.{w64, cast_unsigned}
use Rattle.std.specs.Prelude.{FitsSigned}
use Rattle.words.specs.Words.{low_bits}

pub low_cast : (z : ℤ) → FitsSigned w64 z → cast_unsigned w64 z % 2 ^ 32 ≡ low_bits z
low_cast (pos n) f = refl
low_cast (negsuc n) f = omega (arith, f.sfits)
