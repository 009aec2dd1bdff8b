-- `division::next_message` meets its contract. Assumes nothing.
use Rattle.std.proofs.Common.{ap, arith, length-drop}
use Rattle.division.proofs.PlainSteps.{next_past, next_given, next_end, ends_message, ends_unsettled}
use Rattle.division.proofs.next_message.Goals as goal

pub returns-then-recording-start : goal.returns-then-recording-start
returns-then-recording-start c = next_past _ _ c.if-recording-start.true

pub overflow_add-result : goal.overflow_add-result
overflow_add-result c =
    let a = c.args in
    let f = ends_message a.recording.now a.start _ (ap (λ r. r.walked) c.walk.ensures) _ _ _ c.in-Message.is in
    omega (arith, f.counted, f.within, length-drop a.start a.recording.now, c.if-recording-start.false)

pub returns-in-Message : goal.returns-in-Message
returns-in-Message c =
    let a = c.args in
    next_given a.recording.now a.start c.if-recording-start.false _ _ (ends_message a.recording.now a.start _ (ap (λ r. r.walked) c.walk.ensures) _ _ _ c.in-Message.is)

pub returns-in-Unsettled : goal.returns-in-Unsettled
returns-in-Unsettled c =
    let a = c.args in
    next_end a.recording.now a.start c.if-recording-start.false _ (ends_unsettled a.recording.now a.start _ (ap (λ r. r.walked) c.walk.ensures) _ c.in-Unsettled.is)
