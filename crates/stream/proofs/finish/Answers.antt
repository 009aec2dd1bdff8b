-- `stream::finish` meets its contract. Assumes nothing.
use mathlib.Core.Bool.{true}
use mathlib.Core.List.{[]}
use mathlib.Core.Path.{refl, sym}
use Rattle.stream.proofs.CallSteps.{checked_open, allowed_fits, came_fits, finish_refused, finish_goes}
use Rattle.stream.proofs.finish.Goals as goal

pub divide_rest-counted-requires : goal.divide_rest-counted-requires
divide_rest-counted-requires c =
    allowed_fits _ _ _ _ (checked_open _ _ _ (sym c.in-Ok.ensures))

pub conclude-requires : goal.conclude-requires
conclude-requires c =
    let x = c.args in
    let a = checked_open _ _ _ (sym c.in-Ok.ensures) in
    came_fits true x.state _ [] x.window.now x.output.now c.divide_rest-counted.result.outcome _ _ _ a c.divide_rest-counted.ensures.0 c.divide_rest-counted.ensures.1

pub returns-in-Err : goal.returns-in-Err
returns-in-Err c =
    let x = c.args in
    finish_refused x.state x.window.now x.output.now _ _ (sym c.in-Err.ensures) refl

pub returns-in-Ok : goal.returns-in-Ok
returns-in-Ok c =
    let x = c.args in
    finish_goes x.state x.window.now x.output.now c.divide_rest-counted.result.outcome _ _ _ _ _ (sym c.in-Ok.ensures)
    c.divide_rest-counted.ensures.0 c.divide_rest-counted.ensures.1 c.conclude.ensures.0 c.conclude.ensures.1
