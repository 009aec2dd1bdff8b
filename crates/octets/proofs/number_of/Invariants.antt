-- `octets::number_of` meets its contract: the loop carries the number of the bytes passed, modulo 2 ^ 64. Assumes nothing.
use Prim.Native.Nat.{◌%◌, ◌^◌}
use mathlib.Core.Path.{◌≡◌}
use lib.ListN.{take}
use Rattle.octets.specs.Numbers.{number}
use Rattle.octets.proofs.number_of.Given as goal

abbrev pub invariant-loop-byte : goal.invariant-loop-byte
invariant-loop-byte l = l.x ≡ number (take l.byte-index l.s) % 2 ^ 64
