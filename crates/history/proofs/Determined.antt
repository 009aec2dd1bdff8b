-- Each public contract of `history` determines its answer and every lent number. Assumes nothing.
use Rattle.owed.specs.Determined.{Determined}
use Rattle.owed.proofs.Same.{both}
use Rattle.history.specs.contracts as contracts
use Rattle.history.proofs as history

pub fresh_determined : Determined contracts.fresh.ended history.fresh.Reads.Learnt
fresh_determined κs a z z' w w' p q = search both

pub next_breaks_determined : Determined contracts.next_breaks.ended history.next_breaks.Reads.Learnt
next_breaks_determined κs a z z' w w' p q = search both

pub claimed_breaks_determined : Determined contracts.claimed_breaks.ended history.claimed_breaks.Reads.Learnt
claimed_breaks_determined κs a z z' w w' p q = search both
