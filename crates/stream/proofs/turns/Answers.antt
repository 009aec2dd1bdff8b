-- `stream::turns` meets its contract: what is left of the call is the whole call. Assumes nothing.
use mathlib.Core.Path.{ap}
use mathlib.Core.Bool.{false}
use mathlib.Core.List.{◌++◌}
use lib.ListN.{take}
use Rattle.stream.proofs.TurnSteps.{filling_begins, turn_hands, turn_message_gap, turn_given, turn_within, turn_gap, turn_place_fits, turn_place, turn_pull_fits, turn_more, turn_on}
use Rattle.stream.proofs.TallySteps.{never, tallied_begins, turn_adds, turn_tested, turn_more_tested, turn_place_adds, turn_place_tested, turn_on_tallied}
use Rattle.stream.proofs.turns.Goals as goal

pub loop-at-init : goal.loop-at-init
loop-at-init c =
    let x = c.args in
    (filling_begins false x.held x.gap x.window.now x.output.now x.piece.now c.requires.0, tallied_begins x.gap (take x.held x.window.now ++ x.piece.now))

pub overflow_add-summed : goal.overflow_add-summed
overflow_add-summed c =
    let loop = c.loop-at in
    let x = c.args in
    turn_adds false x.held x.gap x.window.now x.output.now x.piece.now loop.held loop.gap loop.taken loop.window loop.output loop.invariant.0 c.requires (never x.piece.now) loop.summed loop.invariant.1 _ c.walk-passage.ensures

pub hand_over-left-requires : goal.hand_over-left-requires
hand_over-left-requires c =
    let loop = c.loop-at in
    let x = c.args in
    turn_hands false x.held x.gap x.window.now x.output.now x.piece.now loop.held loop.gap loop.taken loop.window loop.output loop.invariant.0 c.requires _ (ap (λ r. r.walked) c.walk-passage.ensures) _ _ _ c.in-Message.is

pub overflow_add-outcome : goal.overflow_add-outcome
overflow_add-outcome c =
    let loop = c.loop-at in
    let x = c.args in
    turn_message_gap false x.held x.gap x.window.now x.output.now x.piece.now loop.held loop.gap loop.taken loop.window loop.output loop.invariant.0 c.requires _ (ap (λ r. r.walked) c.walk-passage.ensures) _ _ _ c.in-Message.is

pub returns-in-Message : goal.returns-in-Message
returns-in-Message c =
    let loop = c.loop-at in
    let x = c.args in (
      turn_given false x.held x.gap x.window.now x.output.now x.piece.now loop.held loop.gap loop.taken loop.window loop.output loop.invariant.0 c.requires _ (ap (λ r. r.walked) c.walk-passage.ensures) _ _ _ c.in-Message.is _ _ _ c.hand_over-left.ensures,
      turn_tested false x.held x.gap x.window.now x.output.now x.piece.now loop.held loop.gap loop.taken loop.window loop.output loop.invariant.0 c.requires (never x.piece.now) loop.summed loop.invariant.1 _ c.walk-passage.ensures _ _ _ c.in-Message.is _,
    )

pub overflow_sub-held : goal.overflow_sub-held
overflow_sub-held c =
    let loop = c.loop-at in
    let x = c.args in
    turn_within false x.held x.gap x.window.now x.output.now x.piece.now loop.held loop.gap loop.taken loop.window loop.output loop.invariant.0 c.requires _ (ap (λ r. r.walked) c.walk-passage.ensures) _ c.in-Unsettled.is

pub in_place-rest-requires : goal.in_place-rest-requires
in_place-rest-requires c =
    let loop = c.loop-at in
    let x = c.args in
    turn_place_fits false x.held x.gap x.window.now x.output.now x.piece.now loop.held loop.gap loop.taken loop.window loop.output loop.invariant.0 c.requires _ (ap (λ r. r.walked) c.walk-passage.ensures) _ c.in-Unsettled.is

pub overflow_add-rest : goal.overflow_add-rest
overflow_add-rest c =
    let loop = c.loop-at in
    let x = c.args in
    (turn_place_adds false x.held x.gap x.window.now x.output.now x.piece.now loop.held loop.gap loop.taken loop.window loop.output loop.invariant.0 c.requires (never x.piece.now) loop.summed loop.invariant.1 _ c.walk-passage.ensures _ c.in-Unsettled.is _ _ c.in_place-rest.ensures.1)

pub returns-then-held-eq0 : goal.returns-then-held-eq0
returns-then-held-eq0 c =
    let loop = c.loop-at in
    let x = c.args in (
      turn_place false x.held x.gap x.window.now x.output.now x.piece.now loop.held loop.gap loop.taken loop.window loop.output loop.invariant.0 c.requires _ (ap (λ r. r.walked) c.walk-passage.ensures) _ c.in-Unsettled.is c.if-held-eq0.true c.in_place-rest.result.outcome c.in_place-rest.new.window c.in_place-rest.new.output c.in_place-rest.ensures.0,
      turn_place_tested false x.held x.gap x.window.now x.output.now x.piece.now loop.held loop.gap loop.taken loop.window loop.output loop.invariant.0 c.requires (never x.piece.now) loop.summed loop.invariant.1 _ c.walk-passage.ensures _ c.in-Unsettled.is _ _ c.in_place-rest.ensures.1 c.if-held-eq0.true,
    )

pub pull-more-requires : goal.pull-more-requires
pull-more-requires c =
    let loop = c.loop-at in
    let x = c.args in
    turn_pull_fits false x.held x.gap x.window.now x.output.now x.piece.now loop.held loop.gap loop.taken loop.window loop.output loop.invariant.0 c.requires _ (ap (λ r. r.walked) c.walk-passage.ensures) _ c.in-Unsettled.is c.if-held-eq0.false

pub returns-then-more-eq0 : goal.returns-then-more-eq0
returns-then-more-eq0 c =
    let loop = c.loop-at in
    let x = c.args in (
      turn_more false x.held x.gap x.window.now x.output.now x.piece.now loop.held loop.gap loop.taken loop.window loop.output loop.invariant.0 c.requires _ (ap (λ r. r.walked) c.walk-passage.ensures) _ c.in-Unsettled.is c.if-held-eq0.false _ _ c.pull-more.ensures c.if-more-eq0.true,
      turn_more_tested false x.held x.gap x.window.now x.output.now x.piece.now loop.held loop.gap loop.taken loop.window loop.output loop.invariant.0 c.requires (never x.piece.now) loop.summed loop.invariant.1 _ c.walk-passage.ensures _ c.in-Unsettled.is _ _,
    )

pub loop-at-preserved : goal.loop-at-preserved
loop-at-preserved c =
    let loop = c.loop-at in
    let x = c.args in
    (turn_on false x.held x.gap x.window.now x.output.now x.piece.now loop.held loop.gap loop.taken loop.window loop.output loop.invariant.0 c.requires _ (ap (λ r. r.walked) c.walk-passage.ensures) _ c.in-Unsettled.is c.if-held-eq0.false _ _ c.pull-more.ensures c.if-more-eq0.false, turn_on_tallied false x.held x.gap x.window.now x.output.now x.piece.now loop.held loop.gap loop.taken loop.window loop.output loop.invariant.0 c.requires (never x.piece.now) loop.summed loop.invariant.1 _ c.walk-passage.ensures _ c.in-Unsettled.is c.if-held-eq0.false _ _ c.pull-more.ensures)

pub overflow_add-gap : goal.overflow_add-gap
overflow_add-gap c =
    let loop = c.loop-at in
    let x = c.args in
    turn_gap false x.held x.gap x.window.now x.output.now x.piece.now loop.held loop.gap loop.taken loop.window loop.output loop.invariant.0 c.requires _ (ap (λ r. r.walked) c.walk-passage.ensures) _ c.in-Unsettled.is
