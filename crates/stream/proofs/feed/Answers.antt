-- `stream::feed` meets its contract. Assumes nothing.
use mathlib.Core.Bool.{false}
use mathlib.Core.Path.{refl, sym}
use Rattle.stream.proofs.CallSteps.{feed_allowed, allowed_fits, came_fits, feed_refused, feed_goes}
use Rattle.stream.proofs.feed.Goals as goal

pub divide-counted-requires : goal.divide-counted-requires
divide-counted-requires c =
    allowed_fits _ _ _ _ (feed_allowed _ _ _ _ (sym c.in-Ok.ensures))

pub conclude-requires : goal.conclude-requires
conclude-requires c =
    let x = c.args in
    let a = feed_allowed _ _ _ _ (sym c.in-Ok.ensures) in
    came_fits false x.state _ x.piece.now x.window.now x.output.now c.divide-counted.result.outcome _ _ _ a c.divide-counted.ensures.0 c.divide-counted.ensures.1

pub returns-in-Err : goal.returns-in-Err
returns-in-Err c =
    let x = c.args in
    feed_refused x.state x.piece.now x.window.now x.output.now _ _ (sym c.in-Err.ensures) refl

pub returns-in-Ok : goal.returns-in-Ok
returns-in-Ok c =
    let x = c.args in
    feed_goes x.state x.piece.now x.window.now x.output.now c.divide-counted.result.outcome _ _ _ _ _ (sym c.in-Ok.ensures)
    c.divide-counted.ensures.0 c.divide-counted.ensures.1 c.conclude.ensures.0 c.conclude.ensures.1
