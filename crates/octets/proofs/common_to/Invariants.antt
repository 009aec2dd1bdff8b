-- `octets::common_to` meets its contract: what has been passed is common, and what is left has the rest of it. Assumes nothing.
use Prim.Native.Nat.{◌+◌, ◌≤◌}
use mathlib.Core.Path.{◌≡◌}
use lib.ListN.{length, drop}
use Rattle.octets.specs.Begins.{common}
use Rattle.octets.proofs.common_to.Given as goal

abbrev pub invariant-loop-i : goal.invariant-loop-i
invariant-loop-i l = (l.i ≤ length l.s) × (common l.t l.s ≡ l.i + common (drop l.i l.t) (drop l.i l.s))
