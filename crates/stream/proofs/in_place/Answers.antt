-- `stream::in_place` meets its contract: where the walk over the piece stops is what the feed comes to. Assumes nothing.
use mathlib.Core.Path.{ap}
use native.Mathlib.Omega.{arith}
use Rattle.stream.proofs.TurnSteps.{place_end, place_message, place_rest, place_puts, place_keeps, place_sums, place_given, place_open, place_holds, place_gap, place_more}
use Rattle.stream.proofs.TallySteps.{place_tested, place_passed}
use Rattle.stream.proofs.in_place.Goals as goal

pub overflow_add-end : goal.overflow_add-end
overflow_add-end c =
    let x = c.args in
    (place_sums x.gap x.taken x.piece.now x.window.now x.output.now c.requires _ (ap (λ r. r.walked) c.walk-passage.ensures) _ _ _ c.in-Message.is).2

pub put-requires : goal.put-requires
put-requires c =
    let x = c.args in
    place_puts x.gap x.taken x.piece.now x.window.now x.output.now c.requires _ (ap (λ r. r.walked) c.walk-passage.ensures) _ _ _ c.in-Message.is

pub put-requires-in-Message : goal.put-requires-in-Message
put-requires-in-Message c =
    let x = c.args in
    place_keeps x.gap x.taken x.piece.now x.window.now x.output.now c.requires _ (ap (λ r. r.walked) c.walk-passage.ensures) _ _ _ c.in-Message.is

pub overflow_add-result : goal.overflow_add-result
overflow_add-result c =
    let x = c.args in
    (place_sums x.gap x.taken x.piece.now x.window.now x.output.now c.requires _ (ap (λ r. r.walked) c.walk-passage.ensures) _ _ _ c.in-Message.is).0

pub overflow_add-result-in-Message : goal.overflow_add-result-in-Message
overflow_add-result-in-Message c =
    let x = c.args in
    omega (arith, (place_sums x.gap x.taken x.piece.now x.window.now x.output.now c.requires _ (ap (λ r. r.walked) c.walk-passage.ensures) _ _ _ c.in-Message.is).1, place_end x.gap x.taken x.piece.now x.window.now x.output.now c.requires _ (ap (λ r. r.walked) c.walk-passage.ensures) _ _ _ c.in-Message.is)

pub overflow_sub-result : goal.overflow_sub-result
overflow_sub-result c =
    let x = c.args in
    place_end x.gap x.taken x.piece.now x.window.now x.output.now c.requires _ (ap (λ r. r.walked) c.walk-passage.ensures) _ _ _ c.in-Message.is

pub returns-in-Message : goal.returns-in-Message
returns-in-Message c =
    let x = c.args in (
      place_given x.gap x.taken x.piece.now x.window.now x.output.now c.requires _ (ap (λ r. r.walked) c.walk-passage.ensures) _ _ _ c.in-Message.is _ _ c.put.ensures c.put-in-Message.ensures,
      place_tested x.gap x.taken x.piece.now (c.requires.0, c.requires.3) _ c.walk-passage.ensures _ _ _ c.in-Message.is _ _,
    )

pub put-requires-in-Unsettled : goal.put-requires-in-Unsettled
put-requires-in-Unsettled c =
    let x = c.args in
    place_holds x.gap x.taken x.piece.now x.window.now x.output.now c.requires _ (ap (λ r. r.walked) c.walk-passage.ensures) _ c.in-Unsettled.is

pub overflow_add-result-in-Unsettled : goal.overflow_add-result-in-Unsettled
overflow_add-result-in-Unsettled c =
    let x = c.args in
    place_gap x.gap x.taken x.piece.now x.window.now x.output.now c.requires _ (ap (λ r. r.walked) c.walk-passage.ensures) _ c.in-Unsettled.is

pub overflow_sub-result-in-Unsettled : goal.overflow_sub-result-in-Unsettled
overflow_sub-result-in-Unsettled c =
    let x = c.args in
    (place_open x.gap x.taken x.piece.now x.window.now x.output.now c.requires _ (ap (λ r. r.walked) c.walk-passage.ensures) _ c.in-Unsettled.is).0

pub returns-in-Unsettled : goal.returns-in-Unsettled
returns-in-Unsettled c =
    let x = c.args in (
      place_more x.gap x.taken x.piece.now x.window.now x.output.now c.requires _ (ap (λ r. r.walked) c.walk-passage.ensures) _ c.in-Unsettled.is _ c.put-in-Unsettled.ensures,
      place_passed x.gap x.taken x.piece.now (c.requires.0, c.requires.3) _ c.walk-passage.ensures _ c.in-Unsettled.is _ _,
    )

pub slice_bounds-put-end : goal.slice_bounds-put-end
slice_bounds-put-end c =
    let x = c.args in
    omega (arith, place_message x.gap x.taken x.piece.now x.window.now x.output.now c.requires _ (ap (λ r. r.walked) c.walk-passage.ensures) _ _ _ c.in-Message.is)

pub slice_bounds-put-count-in-Message : goal.slice_bounds-put-count-in-Message
slice_bounds-put-count-in-Message c =
    let x = c.args in
    omega (arith, place_end x.gap x.taken x.piece.now x.window.now x.output.now c.requires _ (ap (λ r. r.walked) c.walk-passage.ensures) _ _ _ c.in-Message.is)

pub slice_bounds-put-start-in-Message : goal.slice_bounds-put-start-in-Message
slice_bounds-put-start-in-Message c =
    let x = c.args in
    omega (arith, place_end x.gap x.taken x.piece.now x.window.now x.output.now c.requires _ (ap (λ r. r.walked) c.walk-passage.ensures) _ _ _ c.in-Message.is)

pub slice_bounds-put-end-in-Message : goal.slice_bounds-put-end-in-Message
slice_bounds-put-end-in-Message c =
    let x = c.args in
    omega (arith, (place_rest x.gap x.taken x.piece.now x.window.now x.output.now c.requires _ (ap (λ r. r.walked) c.walk-passage.ensures) _ _ _ c.in-Message.is).1)

pub slice_bounds-put-count-in-Unsettled : goal.slice_bounds-put-count-in-Unsettled
slice_bounds-put-count-in-Unsettled c =
    let x = c.args in
    omega (arith, (place_open x.gap x.taken x.piece.now x.window.now x.output.now c.requires _ (ap (λ r. r.walked) c.walk-passage.ensures) _ c.in-Unsettled.is).0)

pub slice_bounds-put-start-in-Unsettled : goal.slice_bounds-put-start-in-Unsettled
slice_bounds-put-start-in-Unsettled c =
    let x = c.args in
    omega (arith, (place_open x.gap x.taken x.piece.now x.window.now x.output.now c.requires _ (ap (λ r. r.walked) c.walk-passage.ensures) _ c.in-Unsettled.is).0)
