-- `division::has_start` meets its contract: none is found only where there is none. Assumes nothing.
use Rattle.std.proofs.Common.{◌≡◌, ℕ, ◌+◌, ◌<◌, false}
use Rattle.division.specs.Steps.{NoStart}
use Rattle.division.proofs.has_start.Given as goal

abbrev pub invariant-loop-i : goal.invariant-loop-i
invariant-loop-i l = l.found ≡ false → (j : ℕ) → j < l.i → NoStart l.bytes (l.at + j)
