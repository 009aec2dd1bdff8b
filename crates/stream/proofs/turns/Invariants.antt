-- `stream::turns` meets its contract: what is left of the call is the whole call. Assumes nothing.
use Prim.Native.Nat.{◌-◌}
use mathlib.Core.Bool.{false}
use mathlib.Core.List.{◌++◌}
use lib.ListN.{length, take, drop}
use Rattle.stream.proofs.TurnSteps.{Filling}
use Rattle.stream.proofs.TallySteps.{Tallied}
use Rattle.stream.proofs.turns.Given as goal

abbrev pub invariant-loop-at : goal.invariant-loop-at
invariant-loop-at l =
    Filling false l.initial.held l.initial.gap l.initial.window l.initial.output l.piece l.held l.gap l.taken l.window l.output × Tallied l.initial.gap (take l.initial.held l.initial.window ++ l.piece) l.gap l.summed (take l.held l.window ++ drop l.taken l.piece)

abbrev pub decreases-loop-at : goal.decreases-loop-at
decreases-loop-at l = length l.piece - l.taken
