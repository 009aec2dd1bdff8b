-- `history::appear_all` meets its contract: before each turn the observations that came are taken. Assumes nothing.
use mathlib.Core.Path.{refl, ap, ap₂, ◌∙◌}
use mathlib.Core.List.{[], ◌∷◌}
use native.Mathlib.Omega.{arith}
use lib.ListN.{length-append}
use Rattle.macm.proofs.Iterates.{each, all_came}
use Rattle.history.specs.Appearances.{appears}
use Rattle.history.proofs.Takes.{takes_none, takes_one_more, takes_few, appearances_all}
use Rattle.history.proofs.appear_all.Goals as goal

pub loop-observation-init : goal.loop-observation-init
loop-observation-init c = (omega arith, refl, refl, takes_none _ _ _)

pub loop-observation-preserved : goal.loop-observation-preserved
loop-observation-preserved c =
    let l = c.loop-observation in
    let taken = rw c.count.ensures at c.appear-listed.ensures in
    let few = takes_few _ taken in (
      omega (arith, few, l.invariant.0, length-append l.yielded (c.in-Some.observation ∷ [])),
      c.appear-listed.auto.history ∙ l.invariant.1,
      c.appear-listed.auto.list ∙ l.invariant.2,
      takes_one_more c.header-time.result.time l.yielded c.in-Some.observation l.invariant.3 taken,
    )

pub returns : goal.returns
returns c =
    let m = c.args.claimed.now in
    let l = c.loop-observation in
    let given = c.observations-observation-items.ensures in
    let all = all_came l.yielded_by c.in-None.ensures.steps.0 ∙ c.into_iter-observation-iterator.ensures.into_iter_gives ∙ given.all in
    let time = ap (λ h. h.time) c.header-time.ensures in
    rw (ap₂ (λ t os. each (λ o. appears t o ∷ []) os) time all ∙ appearances_all m given.sized) at l.invariant.3
