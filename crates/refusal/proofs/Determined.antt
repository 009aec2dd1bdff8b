-- The public contract of `refusal` determines its answer. Assumes nothing.
use Rattle.owed.specs.Determined.{Determined}
use Rattle.owed.proofs.Same.{both}
use Rattle.refusal.specs.contracts as contracts
use Rattle.refusal.proofs as refusal

pub number_determined : Determined contracts.number.ended refusal.number.Reads.Learnt
number_determined κs a z z' w w' p q = search both
