-- Each public contract of `units` determines its answer and every lent byte. Assumes nothing.
use Rattle.owed.specs.Determined.{Determined}
use Rattle.owed.proofs.Same.{both}
use Rattle.units.specs.contracts as contracts
use Rattle.units.specs.contracts as contracts
use Rattle.units.proofs as units

pub from_count_determined : Determined contracts.LockCount.from_count.ended units.LockCount.from_count.Reads.Learnt
from_count_determined κs a z z' w w' p q = search both

pub count_determined : Determined contracts.LockCount.count.ended units.LockCount.count.Reads.Learnt
count_determined κs a z z' w w' p q = search both

pub from_number_determined : Determined contracts.Millis.from_number.ended units.Millis.from_number.Reads.Learnt
from_number_determined κs a z z' w w' p q = search both

pub number_determined : Determined contracts.Millis.number.ended units.Millis.number.Reads.Learnt
number_determined κs a z z' w w' p q = search both

pub since_lock_determined : Determined contracts.since_lock.ended units.since_lock.Reads.Learnt
since_lock_determined κs a z z' w w' p q = search both

pub plus_determined : Determined contracts.plus.ended units.plus.Reads.Learnt
plus_determined κs a z z' w w' p q = search both
