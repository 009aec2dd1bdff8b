-- A message ends in its recording.
use Rattle.std.proofs.Common.{ap, ◌∙◌, arith}
use Rattle.std.specs.Prelude.{Ok}
use Rattle.division.proofs.PlainSteps.{given_within}
use Rattle.vectors.proofs.put_recording.Goals as goal

pub overflow_add-start : goal.overflow_add-start
overflow_add-start c =
    let within = given_within c.args.recording.now c.loop.start _ _ _ _ c.next_message.ensures (c.in-Ok-Message.is ∙ ap Ok c.in-Ok-Message.field-0-is) in
    omega (arith, within)
