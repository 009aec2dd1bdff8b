-- What the contracts of `report` determine: a program's run answers nothing where it ends well, and what it prints is held to stored output. Assumes
-- nothing.
use Rattle.owed.specs.Determined.{Determined, DeterminedBy, SameWell}
use Rattle.owed.proofs.Same.{both, both_well}
use Rattle.report.specs.contracts as contracts
use Rattle.report.proofs as report

pub listing_determined : DeterminedBy contracts.listing.ended (λ κs z z'. SameWell z z') report.listing.Reads.Learnt
listing_determined κs a z z' w w' p q = (both_well _ z z' p q, search both)

pub rows_determined : DeterminedBy contracts.rows.ended (λ κs z z'. SameWell z z') report.rows.Reads.Learnt
rows_determined κs a z z' w w' p q = (both_well _ z z' p q, search both)

pub reasons_determined : DeterminedBy contracts.reasons.ended (λ κs z z'. SameWell z z') report.reasons.Reads.Learnt
reasons_determined κs a z z' w w' p q = (both_well _ z z' p q, search both)

pub breaks_determined : DeterminedBy contracts.breaks.ended (λ κs z z'. SameWell z z') report.breaks.Reads.Learnt
breaks_determined κs a z z' w w' p q = (both_well _ z z' p q, search both)

pub say_failure_determined : Determined contracts.say_failure.ended report.say_failure.Reads.Learnt
say_failure_determined κs a z z' w w' p q = search both

pub status_determined : Determined contracts.status.ended report.status.Reads.Learnt
status_determined κs a z z' w w' p q = search both
