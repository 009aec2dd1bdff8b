-- `argument::small_number` meets its contract: before each turn the digits up to its index are read. Assumes nothing.
use Prim.Native.Nat.{◌≤◌, ◌<◌}
use lib.ListN.{length}
use Rattle.argument.proofs.Digits.{Read}
use Rattle.argument.proofs.small_number.Given as goal

abbrev pub invariant-loop-digit : goal.invariant-loop-digit
invariant-loop-digit l = (l.value ≤ 255) × (0 < length l.word) × Read l.word l.value l.digit-index
