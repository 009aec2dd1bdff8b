-- `bits::Field::read` meets its contract: what is read so far and what is left above it are the field. Assumes nothing.
use Prim.Native.Nat.{◌-◌}
use mathlib.Core.Path.{◌≡◌}
use Rattle.bits.specs.Widths.{width_of}
use Rattle.bits.proofs.Steps.{Reading}
use Rattle.bits.proofs.Field.read.Given as goal

abbrev pub invariant-loop-done : goal.invariant-loop-done
invariant-loop-done l = (l.width ≡ width_of l.self) × Reading l.bytes l.self.at (width_of l.self) l.value l.done

abbrev pub decreases-loop-done : goal.decreases-loop-done
decreases-loop-done l = l.width - l.done
