-- `lines::put_breaks` meets its contract: the list holds the breaks that are said to be in it. Assumes nothing.
use mathlib.Core.Path.{sym, ◌∙◌}
use Rattle.macm.specs.Read.{claimed_head}
use Rattle.history.proofs.CallSteps.{list_holds}
use Rattle.lines.proofs.put_breaks.Goals as goal

pub put_listed-requires : goal.put_listed-requires
put_listed-requires c =
    let a = c.args in
    let e = c.claimed_breaks.ensures in
    let m = a.message.now in
    rw (sym e.answer ∙ c.in-Ok.is, sym e.list) at (list_holds m a.history.now a.list.now (claimed_head m))
