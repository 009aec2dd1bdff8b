-- `argument::small_number` meets its contract: before each turn the digits up to its index are read. Assumes nothing.
use native.Mathlib.Omega.{arith}
use Rattle.argument.proofs.Digits.{read_next}
use Rattle.argument.proofs.small_number.Goals as goal

pub loop-digit-preserved : goal.loop-digit-preserved
loop-digit-preserved c =
    let l = c.loop-digit in
    (omega arith, l.invariant.1, read_next _ _ _ l.invariant.2 (omega arith) (omega arith) (omega arith))
