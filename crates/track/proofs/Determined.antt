-- Each public contract of `track` determines its answer. Assumes nothing.
use Rattle.owed.specs.Determined.{Determined}
use Rattle.owed.proofs.Same.{both}
use Rattle.track.specs.contracts as contracts
use Rattle.track.proofs as track

pub range_of_determined : Determined contracts.range_of.ended track.range_of.Reads.Learnt
range_of_determined κs a z z' w w' p q = search both

pub plot_row_determined : Determined contracts.plot_row.ended track.plot_row.Reads.Learnt
plot_row_determined κs a z z' w w' p q = search both

pub phase_of_determined : Determined contracts.phase_of.ended track.phase_of.Reads.Learnt
phase_of_determined κs a z z' w w' p q = search both

pub offset_of_determined : Determined contracts.offset_of.ended track.offset_of.Reads.Learnt
offset_of_determined κs a z z' w w' p q = search both

pub condition_of_determined : Determined contracts.condition_of.ended track.condition_of.Reads.Learnt
condition_of_determined κs a z z' w w' p q = search both
