-- `stream::divide_rest` meets its contract: one walk over the bytes held is the whole call. Assumes nothing.
use mathlib.Core.Path.{ap}
use native.Mathlib.Omega.{arith}
use Rattle.stream.proofs.TurnSteps.{end_within, ends_with_none}
use Rattle.stream.proofs.TallySteps.{end_hands, end_message_gap, end_given, end_gap, end_tested, end_passed}
use Rattle.stream.proofs.divide_rest.Goals as goal

pub overflow_add-result : goal.overflow_add-result
overflow_add-result c =
    let x = c.args in
    end_message_gap x.state.held x.state.gap x.window.now x.output.now c.requires _ c.walk-passage.ensures _ _ _ c.in-Message.is

pub hand_over-requires : goal.hand_over-requires
hand_over-requires c =
    let x = c.args in
    end_hands x.state.held x.state.gap x.window.now x.output.now c.requires _ c.walk-passage.ensures _ _ _ c.in-Message.is

pub overflow_add-result-in-Unsettled : goal.overflow_add-result-in-Unsettled
overflow_add-result-in-Unsettled c =
    let x = c.args in
    end_gap x.state.held x.state.gap x.window.now x.output.now c.requires _ c.walk-passage.ensures _ c.in-Unsettled.is

pub overflow_sub-result : goal.overflow_sub-result
overflow_sub-result c =
    let x = c.args in
    end_within x.state.held x.state.gap x.window.now x.output.now _ (ap (λ r. r.walked) c.walk-passage.ensures) (omega (arith, c.requires.0, c.requires.1)) _ c.in-Unsettled.is

pub returns-in-Message : goal.returns-in-Message
returns-in-Message c =
    let x = c.args in (
      end_given x.state.held x.state.gap x.window.now x.output.now c.requires _ c.walk-passage.ensures _ _ _ c.in-Message.is _ _ _ c.hand_over.ensures,
      end_tested x.state.held x.state.gap x.window.now x.output.now c.requires _ c.walk-passage.ensures _ _ _ c.in-Message.is _,
    )

pub returns-in-Unsettled : goal.returns-in-Unsettled
returns-in-Unsettled c =
    let x = c.args in (
      ends_with_none x.state.held x.state.gap x.window.now x.output.now _ (ap (λ r. r.walked) c.walk-passage.ensures) (omega (arith, c.requires.0, c.requires.1)) _ c.in-Unsettled.is,
      end_passed x.state.held x.state.gap x.window.now x.output.now c.requires _ c.walk-passage.ensures _ c.in-Unsettled.is _,
    )
