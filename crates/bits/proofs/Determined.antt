-- Each public contract of `bits` determines its answer and every lent byte. Assumes nothing.
use Rattle.owed.specs.Determined.{Determined}
use Rattle.owed.proofs.Same.{both}
use Rattle.bits.specs.contracts as contracts
use Rattle.bits.proofs as bits

pub read_determined : Determined contracts.Field.read.ended bits.Field.read.Reads.Learnt
read_determined κs a z z' w w' p q = search both

pub write_determined : Determined contracts.Field.write.ended bits.Field.write.Reads.Learnt
write_determined κs a z z' w w' p q = search both

pub read_signed_determined : Determined contracts.Field.read_signed.ended bits.Field.read_signed.Reads.Learnt
read_signed_determined κs a z z' w w' p q = search both

pub write_signed_determined : Determined contracts.Field.write_signed.ended bits.Field.write_signed.Reads.Learnt
write_signed_determined κs a z z' w w' p q = search both

pub holds_determined : Determined contracts.Field.holds.ended bits.Field.holds.Reads.Learnt
holds_determined κs a z z' w w' p q = search both

pub holds_signed_determined : Determined contracts.Field.holds_signed.ended bits.Field.holds_signed.Reads.Learnt
holds_signed_determined κs a z z' w w' p q = search both
