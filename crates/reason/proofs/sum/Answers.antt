-- `reason::sum` meets its contract. Assumes nothing.
use mathlib.Core.Path.{ap}
use Rattle.reason.proofs.HereSteps.{residue_last, sum_given, sum_off}
use Rattle.reason.proofs.sum.Goals as goal

pub returns-then-residue-eq0 : goal.returns-then-residue-eq0
returns-then-residue-eq0 c =
    let a = c.args in
    let z = residue_last a.bytes.now a.n _ c.requires.0 c.requires.1 (ap (λ r. r.value) c.checksum-sum.ensures) in
    rw (← z) (sum_given a.n _ c.if-residue-eq0.true)

pub returns : goal.returns
returns c =
    let a = c.args in
    let z = residue_last a.bytes.now a.n _ c.requires.0 c.requires.1 (ap (λ r. r.value) c.checksum-sum.ensures) in
    rw (← z) (sum_off a.n _ c.if-residue-eq0.false)
