-- `history::list_breaks` meets its contract. Assumes nothing.
use mathlib.Core.Path.{sym, ap, ◌∙◌}
use native.Mathlib.Omega.{arith}
use Rattle.macm.specs.Read.{header_of}
use Rattle.history.specs.Words.{type_in}
use Rattle.history.specs.Appearances.{is_of}
use Rattle.history.proofs.CallSteps.{call_takes}
use Rattle.history.proofs.list_breaks.Goals as goal

pub returns : goal.returns
unfolding header_of
returns c =
    let m = c.args.claimed.now in
    let ws = c.args.history.now in
    call_takes m.bytes ws c.args.list.now (header_of m.form m.bytes) m.count _ _ _ (omega arith) (ap (is_of (type_in ws)) (sym c.form.ensures) ∙ sym c.is_of.ensures ∙ c.if-not-is_of.false) c.appear_all.ensures
