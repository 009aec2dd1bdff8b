-- `division::skip_blocks` meets its contract. Assumes nothing.
use Rattle.std.proofs.Common.{◌-◌, length}
use Rattle.division.specs.Steps.{Skipped}
use Rattle.division.proofs.skip_blocks.Given as goal

abbrev pub invariant-loop-i : goal.invariant-loop-i
invariant-loop-i l = Skipped l.bytes l.from l.i

abbrev pub decreases-loop-i : goal.decreases-loop-i
decreases-loop-i l = length l.bytes - l.i
