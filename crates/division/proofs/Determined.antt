-- Each public contract of `division` determines its answer; a returned part is the same where it stands at the same place with the same bytes.
-- Assumes nothing.
use Rattle.owed.specs.Determined.{Determined, DeterminedBy, SamePart}
use Rattle.owed.proofs.Same.{both}
use Rattle.division.specs.contracts as contracts
use Rattle.division.proofs as division

pub walk_determined : Determined contracts.walk.ended division.walk.Reads.Learnt
walk_determined κs a z z' w w' p q = search both

pub next_message_determined : Determined contracts.next_message.ended division.next_message.Reads.Learnt
next_message_determined κs a z z' w w' p q = search both

pub message_part_determined : DeterminedBy contracts.message_part.ended (λ κs z z'. SamePart z z') division.message_part.Reads.Learnt
message_part_determined κs a z z' w w' p q = search both
