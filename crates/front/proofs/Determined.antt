-- The public contract of `front` determines its answer. Assumes nothing.
use Rattle.owed.specs.Determined.{Determined}
use Rattle.owed.proofs.Same.{both}
use Rattle.front.specs.contracts as contracts
use Rattle.front.proofs as front

pub claims_determined : Determined contracts.claims.ended front.claims.Reads.Learnt
claims_determined κs a z z' w w' p q = search both
