-- `lines::put_observations` meets its contract: before each turn the rows of the observations that came are put. Assumes nothing.
use mathlib.Core.Path.{◌≡◌}
use Rattle.text.specs.Put.{appended}
use Rattle.lines.proofs.RowSteps.{rows_of}
use Rattle.lines.proofs.put_observations.Given as goal

abbrev pub invariant-loop-observation : goal.invariant-loop-observation
invariant-loop-observation l = l.text ≡ appended (rows_of l.head l.form l.yielded) l.initial.text
