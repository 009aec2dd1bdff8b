-- Each public contract of `lines` determines its answer and every byte or number that is lent. Assumes nothing.
use Rattle.owed.specs.Determined.{Determined}
use Rattle.owed.proofs.Same.{both}
use Rattle.lines.specs.contracts as contracts
use Rattle.lines.proofs as lines

pub put_line_determined : Determined contracts.put_line.ended lines.put_line.Reads.Learnt
put_line_determined κs a z z' w w' p q = search both

pub put_end_determined : Determined contracts.put_end.ended lines.put_end.Reads.Learnt
put_end_determined κs a z z' w w' p q = search both

pub put_rows_determined : Determined contracts.put_rows.ended lines.put_rows.Reads.Learnt
put_rows_determined κs a z z' w w' p q = search both

pub put_breaks_determined : Determined contracts.put_breaks.ended lines.put_breaks.Reads.Learnt
put_breaks_determined κs a z z' w w' p q = search both
