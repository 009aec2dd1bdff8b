-- `octets::fits` meets its contract: what is left of both lists fits as the whole does. Assumes nothing.
use Prim.Native.Nat.{◌≤◌}
use mathlib.Core.Path.{◌≡◌}
use lib.ListN.{length, drop}
use Rattle.octets.specs.Begins.{fit}
use Rattle.octets.proofs.fits.Given as goal

abbrev pub invariant-loop-i : goal.invariant-loop-i
invariant-loop-i l = (l.i ≤ length l.s) × (fit l.t l.s ≡ fit (drop l.i l.t) (drop l.i l.s))
