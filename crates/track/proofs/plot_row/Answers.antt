-- `track::plot_row` meets its contract. Assumes nothing.
use mathlib.Core.Path.{◌≡◌, sym, subst}
use lib.Dec.{le→leb}
use lib.Ieee.{in_float}
use Rattle.track.specs.declared.PlotRow.{PlotRow}
use Rattle.track.specs.Row.{row_of, Bounded}
use Rattle.track.proofs.Row.{computed, range_exact, row_is, row_bounded}
use Rattle.track.proofs.plot_row.Goals as goal

pub int_to_float-result : goal.int_to_float-result
unfolding in_float
int_to_float-result c = rw c.range_of-micrometres.ensures (le→leb _ _ (range_exact c.args.pseudorange c.ranges.pseudorange.fits))

pub returns : goal.returns
returns c =
    let s = c in
    let pseudorange = s.args.pseudorange in
    let rate = s.args.rate in
    let is : computed c.range_of-micrometres.result rate ≡ row_of pseudorange rate =
    rw c.range_of-micrometres.ensures (row_is pseudorange rate s.ranges.pseudorange.fits s.ranges.rate) in
    (is, subst (λ (row : PlotRow). Bounded pseudorange rate row) (sym is) (row_bounded pseudorange rate s.ranges.pseudorange.fits s.ranges.rate))
