-- `reason::cover` meets its contract: where the division from the loop's place on covers the position is where the whole one does. Assumes nothing.
use Prim.Native.Nat.{◌-◌, ◌≤◌}
use mathlib.Core.Path.{◌≡◌}
use lib.ListN.{length, drop}
use Rattle.division.specs.Division.{divide}
use Rattle.reason.specs.Reason.{cover_in, cover_of}
use Rattle.reason.proofs.cover.Given as goal

abbrev pub invariant-loop-at : goal.invariant-loop-at
invariant-loop-at l = (l.at ≤ length l.recording) × (cover_of l.recording l.position ≡ cover_in (divide (drop l.at l.recording) 0) l.at l.position)

abbrev pub decreases-loop-at : goal.decreases-loop-at
decreases-loop-at l = length l.recording - l.at
