-- `division::walk` meets its contract: the walk from where the loop stands is the whole walk. Assumes nothing.
use Rattle.std.proofs.Common.{◌≡◌, ◌-◌, ◌%◌, ◌^◌, ◌≤◌, length, drop}
use Rattle.division.specs.Walk.{walk_of}
use Rattle.division.specs.Work.{tested_in}
use Rattle.division.proofs.walk.Given as goal

abbrev pub invariant-loop-at : goal.invariant-loop-at
invariant-loop-at l = (l.at ≤ length l.bytes) × (walk_of l.ended l.bytes 0 0 ≡ walk_of l.ended (drop l.at l.bytes) l.at l.reach) × (l.summed ≡ tested_in l.at l.bytes % 2 ^ 64)

abbrev pub decreases-loop-at : goal.decreases-loop-at
decreases-loop-at l = length l.bytes - l.at
