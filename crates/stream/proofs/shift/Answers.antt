-- `stream::shift` meets its contract: each byte is read before it is written over. Assumes nothing.
use Rattle.stream.proofs.WindowSteps.{shift_turn}
use Rattle.stream.proofs.shift.Goals as goal

pub loop-i-preserved : goal.loop-i-preserved
loop-i-preserved c =
    shift_turn c.args.window.now c.loop-i.window c.args.from c.args.n c.loop-i.i c.requires c.loop-i-test.true c.loop-i.invariant
