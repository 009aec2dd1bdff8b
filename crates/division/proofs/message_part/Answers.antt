-- `division::message_part` meets its contract: the part stands where the plain reader says. Assumes nothing.
use Rattle.std.proofs.Common.{arith, ap, Ok, ◌∙◌}
use Rattle.division.proofs.PlainSteps.{given_within}
use Rattle.division.proofs.message_part.Goals as goal

pub overflow_add-end : goal.overflow_add-end
overflow_add-end c =
    let a = c.args in
    let m = c.in-Ok-Message in
    omega (arith, given_within a.recording.now a.start _ _ _ _ c.next_message.ensures (m.is ∙ ap Ok m.field-0-is))

pub slice_bounds-result-end : goal.slice_bounds-result-end
slice_bounds-result-end c =
    let a = c.args in
    let m = c.in-Ok-Message in
    omega (arith, given_within a.recording.now a.start _ _ _ _ c.next_message.ensures (m.is ∙ ap Ok m.field-0-is))
