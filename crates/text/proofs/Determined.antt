-- Each public contract of `text` determines its answer and every byte of the buffer. Assumes nothing.
use Rattle.owed.specs.Determined.{Determined, DeterminedBy, SamePart}
use Rattle.owed.proofs.Same.{both}
use Rattle.text.specs.contracts as contracts
use Rattle.text.proofs as text

pub new_determined : Determined contracts.Text.new.ended text.Text.new.Reads.Learnt
new_determined κs a z z' w w' p q = search both

pub behind_determined : Determined contracts.Text.behind.ended text.Text.behind.Reads.Learnt
behind_determined κs a z z' w w' p q = search both

pub at_determined : Determined contracts.Text.at.ended text.Text.at.Reads.Learnt
at_determined κs a z z' w w' p q = search both

pub written_determined : DeterminedBy contracts.Text.written.ended (λ κs z z'. SamePart z z') text.Text.written.Reads.Learnt
written_determined κs a z z' w w' p q = search both

pub clear_determined : Determined contracts.Text.clear.ended text.Text.clear.Reads.Learnt
clear_determined κs a z z' w w' p q = search both

pub put_determined : Determined contracts.Text.put.ended text.Text.put.Reads.Learnt
put_determined κs a z z' w w' p q = search both

pub put_all_determined : Determined contracts.Text.put_all.ended text.Text.put_all.Reads.Learnt
put_all_determined κs a z z' w w' p q = search both

pub front_determined : DeterminedBy contracts.front.ended (λ κs z z'. SamePart z z') text.front.Reads.Learnt
front_determined κs a z z' w w' p q = search both

pub put_decimal_determined : Determined contracts.Text.put_decimal.ended text.Text.put_decimal.Reads.Learnt
put_decimal_determined κs a z z' w w' p q = search both

pub put_hex_determined : Determined contracts.Text.put_hex.ended text.Text.put_hex.Reads.Learnt
put_hex_determined κs a z z' w w' p q = search both

pub put_number_determined : Determined contracts.Text.put_number.ended text.Text.put_number.Reads.Learnt
put_number_determined κs a z z' w w' p q = search both

pub put_long_determined : Determined contracts.Text.put_long.ended text.Text.put_long.Reads.Learnt
put_long_determined κs a z z' w w' p q = search both

pub put_short_determined : Determined contracts.Text.put_short.ended text.Text.put_short.Reads.Learnt
put_short_determined κs a z z' w w' p q = search both

pub put_count_determined : Determined contracts.Text.put_count.ended text.Text.put_count.Reads.Learnt
put_count_determined κs a z z' w w' p q = search both

pub put_metres_determined : Determined contracts.Text.put_metres.ended text.Text.put_metres.Reads.Learnt
put_metres_determined κs a z z' w w' p q = search both

pub put_hertz_determined : Determined contracts.Text.put_hertz.ended text.Text.put_hertz.Reads.Learnt
put_hertz_determined κs a z z' w w' p q = search both

pub put_cycles_determined : Determined contracts.Text.put_cycles.ended text.Text.put_cycles.Reads.Learnt
put_cycles_determined κs a z z' w w' p q = search both
