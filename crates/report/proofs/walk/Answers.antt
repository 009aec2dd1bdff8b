-- The walk stops within its bytes.
use Rattle.report.proofs.Within.{walk_within}
use Rattle.report.proofs.walk.Goals as goal

pub returns : goal.returns
returns c = rw c.walk.ensures (walk_within c.args.over c.args.bytes.now)
