-- `division::next_start` meets its contract. Assumes nothing.
use Rattle.division.specs.Steps.{Skipped}
use Rattle.division.proofs.next_start.Given as goal

abbrev pub invariant-loop-i : goal.invariant-loop-i
invariant-loop-i l = Skipped l.bytes l.from l.i
