-- Each public contract of `octets` determines its answer and every lent byte. Assumes nothing.
use Rattle.owed.specs.Determined.{Determined}
use Rattle.owed.proofs.Same.{both}
use Rattle.octets.specs.contracts as contracts
use Rattle.octets.proofs as octets

pub checksum_determined : Determined contracts.checksum.ended octets.checksum.Reads.Learnt
checksum_determined κs a z z' w w' p q = search both

pub common_to_determined : Determined contracts.common_to.ended octets.common_to.Reads.Learnt
common_to_determined κs a z z' w w' p q = search both

pub fits_determined : Determined contracts.fits.ended octets.fits.Reads.Learnt
fits_determined κs a z z' w w' p q = search both

pub starts_determined : Determined contracts.starts.ended octets.starts.Reads.Learnt
starts_determined κs a z z' w w' p q = search both

pub number_of_determined : Determined contracts.number_of.ended octets.number_of.Reads.Learnt
number_of_determined κs a z z' w w' p q = search both

pub put_number_determined : Determined contracts.put_number.ended octets.put_number.Reads.Learnt
put_number_determined κs a z z' w w' p q = search both

pub signed_in_determined : Determined contracts.signed_in.ended octets.signed_in.Reads.Learnt
signed_in_determined κs a z z' w w' p q = search both

pub raw_in_determined : Determined contracts.raw_in.ended octets.raw_in.Reads.Learnt
raw_in_determined κs a z z' w w' p q = search both

pub holds_signed_determined : Determined contracts.holds_signed.ended octets.holds_signed.Reads.Learnt
holds_signed_determined κs a z z' w w' p q = search both

pub copy_determined : Determined contracts.copy.ended octets.copy.Reads.Learnt
copy_determined κs a z z' w w' p q = search both
