-- `stream::check_feed` meets its contract. Assumes nothing.
use Rattle.std.specs.Prelude.{Ok}
use mathlib.Core.Path.{◌≡◌, sym, ◌∙◌}
use native.Mathlib.Omega.{arith}
use Rattle.stream.specs.Reader.{checked}
use Rattle.stream.proofs.CallSteps.{checked_open, goes_on}
use Rattle.stream.proofs.check_feed.Goals as goal

pub overflow_sub-state : goal.overflow_sub-state
overflow_sub-state c = omega (arith, (checked_open _ _ _ (sym c.check.ensures ∙ c.in_ok-check.was)).fits)

pub returns : goal.returns
returns c =
    let x = c.args in
    let open_so : checked x.state x.window x.output ≡ Ok tt = sym c.check.ensures ∙ c.in_ok-check.was in
    goes_on x.state x.window x.output x.piece open_so c.if-state-ne0.false (omega (arith, (checked_open _ _ _ open_so).fits, c.if-state-piece.false))
