-- Each public contract of `argument` determines its answer. Assumes nothing.
use Rattle.owed.specs.Determined.{Determined}
use Rattle.owed.proofs.Same.{both}
use Rattle.argument.specs.contracts as contracts
use Rattle.argument.proofs as argument

pub small_number_determined : Determined contracts.small_number.ended argument.small_number.Reads.Learnt
small_number_determined κs a z z' w w' p q = search both
