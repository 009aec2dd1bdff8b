-- `bits::Field::write` meets its contract: what is left to write makes the whole of what is written. Assumes nothing.
use Prim.Native.Nat.{◌-◌}
use mathlib.Core.Path.{◌≡◌}
use Rattle.bits.specs.Widths.{width_of}
use Rattle.bits.proofs.Steps.{Writing}
use Rattle.bits.proofs.Field.write.Given as goal

abbrev pub invariant-loop-done : goal.invariant-loop-done
invariant-loop-done l = (l.width ≡ width_of l.self) × Writing l.initial.bytes l.self.at (width_of l.self) l.value l.bytes l.left l.done

abbrev pub decreases-loop-done : goal.decreases-loop-done
decreases-loop-done l = l.width - l.done
