-- `lines::put_observations` meets its contract: once all observations came, the rows are those of the message. Assumes nothing.
use mathlib.Core.Path.{ap, ap₂, ◌∙◌}
use Rattle.text.specs.Put.{appended}
use Rattle.macm.proofs.Iterates.{all_came}
use Rattle.lines.proofs.RowSteps.{rows_of, rows_all}
use Rattle.lines.proofs.put_observations.Goals as goal

pub returns : goal.returns
returns c =
    let l = c.loop-observation in
    let head = c.args.head.now in
    let given = c.observations-observation-items.ensures in
    let all = all_came l.yielded_by c.in-None.ensures.steps.0 ∙ c.into_iter-observation-iterator.ensures.into_iter_gives ∙ given.all in
    l.invariant ∙ ap (λ t. appended t c.args.text.now) (ap₂ (rows_of head) c.form-form.ensures all ∙ rows_all head c.args.claimed.now given.sized)
