-- `division::settle` meets its contract. Assumes nothing.
use Rattle.std.proofs.Common.{◌∙◌}
use Rattle.division.proofs.WalkSteps.{nothing, waits, short, agreed, damaged, claimed, agreed_so, summed_so}
use Rattle.division.proofs.settle.Goals as goal

pub returns-in-Nothing : goal.returns-in-Nothing
returns-in-Nothing c =
    let a = c.args in
    nothing a.bytes.now a.reach a.at _ c.requires (claimed a.bytes.now a.at _ c.in-Nothing.ensures) c.next_start.ensures

pub returns-then-agreement : goal.returns-then-agreement
returns-then-agreement c =
    let a = c.args in
    agreed a.bytes.now a.reach a.at c.requires _ (claimed a.bytes.now a.at _ c.in-Long.ensures) c.if-bytes-at.false _ c.max-reach.ensures
    _ (summed_so a.bytes.now a.at _ _ c.agreeing-agreement.ensures c.if-bytes-at.false) (agreed_so a.bytes.now a.at _ _ c.agreeing-agreement.ensures ∙ c.if-agreement.true)

pub returns-else-agreement : goal.returns-else-agreement
returns-else-agreement c =
    let a = c.args in
    damaged a.bytes.now a.reach a.at c.requires _ (claimed a.bytes.now a.at _ c.in-Long.ensures) c.if-bytes-at.false _ c.max-reach.ensures
    _ (summed_so a.bytes.now a.at _ _ c.agreeing-agreement.ensures c.if-bytes-at.false) (agreed_so a.bytes.now a.at _ _ c.agreeing-agreement.ensures ∙ c.if-agreement.false)

pub returns-in-AtLeast : goal.returns-in-AtLeast
returns-in-AtLeast c = let a = c.args in waits a.bytes.now a.reach a.at c.requires _ (claimed a.bytes.now a.at _ c.in-AtLeast.ensures)

pub returns-in-Long : goal.returns-in-Long
returns-in-Long c = let a = c.args in short a.bytes.now a.reach a.at c.requires _ (claimed a.bytes.now a.at _ c.in-Long.ensures) c.if-bytes-at.true
