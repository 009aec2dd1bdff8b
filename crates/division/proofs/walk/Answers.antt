-- `division::walk` meets its contract: the walk from where the loop stands is the whole walk. Assumes nothing.
use Rattle.std.proofs.Common.{refl, ◌∙◌, arith}
use Rattle.division.proofs.WalkSteps.{walk_end, walk_made}
use Rattle.division.proofs.TestedSteps.{none_tested}
use Rattle.division.proofs.walk.Goals as goal

pub loop-at-init : goal.loop-at-init
loop-at-init c = (omega arith, refl, none_tested c.args.bytes.now)

pub returns-after-loop-at : goal.returns-after-loop-at
returns-after-loop-at c =
    let l = c.loop-at in
    let a = c.args in
    walk_made a.ended a.bytes.now _ _ (l.invariant.1 ∙ walk_end a.ended a.bytes.now l.at l.reach c.loop-at-test.false) l.invariant.2
