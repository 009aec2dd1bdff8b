-- `reason::cover` meets its contract: where the division from the loop's place on covers the position is where the whole one does. Assumes nothing.
use Rattle.std.specs.Prelude.{Ok}
use mathlib.Core.Path.{sym, ap, ◌∙◌}
use native.Mathlib.Omega.{arith}
use Rattle.reason.proofs.CoverSteps.{cover_before, found_says, end_says, refused_says, covered_here, covered_onward}
use Rattle.reason.proofs.cover.Goals as goal

pub returns-in-Ok-End : goal.returns-in-Ok-End
returns-in-Ok-End c =
    let a = c.args in
    let l = c.loop-at in
    sym (l.invariant.1 ∙ end_says a.recording.now l.at a.position l.invariant.0 _ c.next_message.ensures _ (c.in-Ok-End.is ∙ ap Ok c.in-Ok-End.field-0-is))

pub returns-in-Err : goal.returns-in-Err
returns-in-Err c =
    let a = c.args in
    let l = c.loop-at in
    sym (l.invariant.1 ∙ refused_says a.recording.now l.at a.position l.invariant.0 _ c.next_message.ensures _ c.in-Err.is)

pub overflow_add-end : goal.overflow_add-end
overflow_add-end c =
    let a = c.args in
    let l = c.loop-at in
    let h = found_says a.recording.now l.at a.position l.invariant.0 _ c.next_message.ensures _ _ _ (c.in-Ok-Message.is ∙ ap Ok c.in-Ok-Message.field-0-is) in
    omega (arith, h.within)

pub returns-then-position-end : goal.returns-then-position-end
returns-then-position-end c =
    let a = c.args in
    let l = c.loop-at in
    let h = found_says a.recording.now l.at a.position l.invariant.0 _ c.next_message.ensures _ _ _ (c.in-Ok-Message.is ∙ ap Ok c.in-Ok-Message.field-0-is) in
    c.min.ensures ∙ sym (l.invariant.1 ∙ covered_here a.recording.now l.at a.position _ _ h c.if-position-end.true)

pub loop-at-smaller : goal.loop-at-smaller
loop-at-smaller c =
    let a = c.args in
    let l = c.loop-at in
    let h = found_says a.recording.now l.at a.position l.invariant.0 _ c.next_message.ensures _ _ _ (c.in-Ok-Message.is ∙ ap Ok c.in-Ok-Message.field-0-is) in
    omega (arith, h.from, h.some, h.within)

pub loop-at-preserved : goal.loop-at-preserved
loop-at-preserved c =
    let a = c.args in
    let l = c.loop-at in
    let h = found_says a.recording.now l.at a.position l.invariant.0 _ c.next_message.ensures _ _ _ (c.in-Ok-Message.is ∙ ap Ok c.in-Ok-Message.field-0-is) in
    (h.within, l.invariant.1 ∙ covered_onward a.recording.now l.at a.position _ _ h c.if-position-end.false)

pub returns : goal.returns
returns c =
    let l = c.loop-at in
    sym (l.invariant.1 ∙ cover_before _ _ _ c.loop-at-test.false)
