-- Each public contract of `reason` determines its answer. Assumes nothing.
use Rattle.owed.specs.Determined.{Determined}
use Rattle.owed.proofs.Same.{both}
use Rattle.reason.specs.contracts as contracts
use Rattle.reason.proofs as reason

pub reason_here_determined : Determined contracts.reason_here.ended reason.reason_here.Reads.Learnt
reason_here_determined κs a z z' w w' p q = search both

pub reason_at_determined : Determined contracts.reason_at.ended reason.reason_at.Reads.Learnt
reason_at_determined κs a z z' w w' p q = search both
