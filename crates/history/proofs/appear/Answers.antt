-- `history::appear` meets its contract. Assumes nothing.
use Prim.Native.Nat.{◌*◌}
use mathlib.Core.Path.{◌∙◌}
use Rattle.history.specs.Words.{last_at}
use Rattle.history.proofs.Rows.{row_last, row_put}
use Rattle.history.proofs.Takes.{takes_nothing, takes_break}
use Rattle.history.proofs.appear.Goals as goal

pub returns-in_default : goal.returns-in_default
returns-in_default c =
    let a = c.args in
    let at = last_at a.appearance.sid in
    let kept = c.last_of-last.ensures ∙ row_last at a.history.now in
    let left = row_put at a.history.now _ _ _ _ c.put_three.ensures in
    takes_nothing a.history.now a.list.now a.count a.appearance _ _ _ kept c.said_of.ensures left c.in_default.is

pub returns : goal.returns
returns c =
    let a = c.args in
    let at = last_at a.appearance.sid in
    let kept = c.last_of-last.ensures ∙ row_last at a.history.now in
    let left = row_put at a.history.now _ _ _ _ c.put_three.ensures in
    let listed = row_put (3 * a.count) a.list.now _ _ _ _ (rw c.number.ensures at c.put_three-2.ensures) in
    takes_break a.history.now a.list.now a.count a.appearance _ _ _ kept c.said_of.ensures left _ c.in-Some.which c.in-Some.is listed
