-- `division::skip_blocks` meets its contract. Assumes nothing.
use Rattle.std.proofs.Common.{arith}
use Rattle.division.proofs.Skipping.{skipped_more}
use Rattle.division.proofs.skip_blocks.Goals as goal

pub loop-i-preserved : goal.loop-i-preserved
loop-i-preserved c = skipped_more c.args.bytes.now c.args.from c.loop-i.i 64 c.loop-i.invariant (omega arith) (c.has_start.ensures c.if-not-has_start.true)
