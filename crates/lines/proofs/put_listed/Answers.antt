-- `lines::put_listed` meets its contract: before each turn the lines of the rows that came are put. Assumes nothing.
use Prim.Native.Nat.{suc}
use mathlib.Core.Path.{◌≡◌, ap, sym, ◌∙◌}
use mathlib.Core.List.{[], ◌∷◌, ◌++◌}
use native.Mathlib.Omega.{arith}
use lib.ListN.{length, get_or, length-append}
use borrow.Author.Rules.{rules}
use Rattle.text.specs.Put.{appended}
use Rattle.text.proofs.PutLaws.{appended_none, appended_join}
use Rattle.lines.specs.Breaks.{breaks_up_to, break_text}
use Rattle.lines.proofs.BreakSteps.{row_within, row_rest, row_break}
use Rattle.lines.proofs.put_listed.Goals as goal

pub loop-row-init : goal.loop-row-init
unfolding breaks_up_to
loop-row-init c = (omega arith, search rules, search rules, appended_none c.args.text.now)

pub loop-row-preserved : goal.loop-row-preserved
unfolding breaks_up_to
loop-row-preserved c =
    let a = c.args in
    let l = c.loop-row in
    let k = length l.yielded in
    let one : length (l.yielded ++ (c.in-Some.row ∷ [])) ≡ suc k = length-append l.yielded (c.in-Some.row ∷ []) ∙ omega arith in
    let row = c.in-Some.row.now in
    let list = a.list.now in
    let step = c.in-Some.ensures.steps in
    let comes = sym l.invariant.2 ∙ step.1.0 in
    let three = step.1.1 ∙ l.invariant.1 in
    let rest = c.next.new.self.rest.now in
    let holds = c.requires in
    rw one (
      row_within k a.count list row rest holds comes three,
      step.0 ∙ l.invariant.1,
      row_rest k a.count list row rest holds comes three,
      c.put_break.ensures ∙ ap (appended (break_text a.position (get_or row 0 0) (get_or row 1 0) (get_or row 2 0))) l.invariant.3
          ∙ appended_join (breaks_up_to k a.position list) _ a.text.now
          ∙ ap (λ t. appended (breaks_up_to k a.position list ++ t) a.text.now) (row_break k a.count list row rest holds comes three a.position),
    )
