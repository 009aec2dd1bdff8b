-- `reason::reason_here` meets its contract. Assumes nothing.
use Rattle.reason.proofs.HereSteps.{long_five}
use Rattle.reason.proofs.reason_here.Goals as goal

pub sum-requires : goal.sum-requires
sum-requires c =
    let xs = c.args.bytes.now in
    (long_five xs _ c.claims.ensures _ c.in-Long.is, c.if-bytes-n.false)
