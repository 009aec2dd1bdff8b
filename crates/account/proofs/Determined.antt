-- The public contract of `account` determines its answer and every byte of the buffer. Assumes nothing.
use Rattle.owed.specs.Determined.{Determined}
use Rattle.owed.proofs.Same.{both}
use Rattle.account.specs.contracts as contracts
use Rattle.account.proofs as account

pub put_report_determined : Determined contracts.put_report.ended account.put_report.Reads.Learnt
put_report_determined κs a z z' w w' p q = search both
