-- `novatel::Measured::rolls` meets its contract: the sum is not negative, or negative with a rest. Assumes nothing.
use native.Mathlib.Omega.{arith}
use Rattle.novatel.proofs.RollSteps.{ahead_met, between_met}
use Rattle.novatel.proofs.Measured.rolls.Goals as goal

pub returns-then-sum-ge0 : goal.returns-then-sum-ge0
returns-then-sum-ge0 c =
    let cycles = c.cycles-whole in
    let parts = cycles.result in
    let told = cycles.ensures in
    ahead_met c.args.self.range parts.whole parts.rest c.args.self.adr c.rounded.result told.0 told.1 told.2 c.args.self.adr_fits c.if-sum-ge0.true c.rounded.ensures.0 c.rounded.ensures.1

pub returns : goal.returns
returns c =
    let cycles = c.cycles-whole in
    let parts = cycles.result in
    let told = cycles.ensures in
    let short = c.unsigned_abs-short in
    let q = c.rounded-2 in
    between_met c.args.self.range parts.whole parts.rest c.args.self.adr q.result told.0 told.1 told.2 c.args.self.adr_fits short.result c.if-sum-ge0.false (omega arith) short.ensures.value q.ensures.0 q.ensures.1
