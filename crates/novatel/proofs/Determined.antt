-- Each public contract of `novatel` determines its answer and every lent byte. Assumes nothing.
use Rattle.owed.specs.Determined.{Determined}
use Rattle.owed.proofs.Same.{both}
use Rattle.novatel.specs.contracts as contracts
use Rattle.novatel.proofs as novatel

pub deviation_of_range_determined : Determined contracts.deviation_of_range.ended novatel.deviation_of_range.Reads.Learnt
deviation_of_range_determined κs a z z' w w' p q = search both

pub deviation_of_adr_determined : Determined contracts.deviation_of_adr.ended novatel.deviation_of_adr.Reads.Learnt
deviation_of_adr_determined κs a z z' w w' p q = search both

pub read_record_determined : Determined contracts.read_record.ended novatel.read_record.Reads.Learnt
read_record_determined κs a z z' w w' p q = search both

pub corrected_adr_determined : Determined contracts.corrected_adr.ended novatel.corrected_adr.Reads.Learnt
corrected_adr_determined κs a z z' w w' p q = search both

pub write_record_determined : Determined contracts.write_record.ended novatel.write_record.Reads.Learnt
write_record_determined κs a z z' w w' p q = search both
