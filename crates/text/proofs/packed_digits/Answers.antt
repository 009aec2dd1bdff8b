-- `text::packed_digits` meets its contract. Assumes nothing.
use Rattle.text.proofs.Packed.{packed_bytes}
use Rattle.text.proofs.packed_digits.Goals as goal

pub returns : goal.returns
returns c = packed_bytes c.args.n c.requires
