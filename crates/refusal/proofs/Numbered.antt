-- A refusal's number is not 0, which is that of what is accepted, and has two digits at the most. Assumes nothing.
use Prim.Native.Nat.{◌<◌}
use native.Mathlib.Omega.{arith}
use Rattle.refusal.specs.declared.Refusal.{Refusal}
use Rattle.refusal.specs.declared.Refusal.TheVariants.{TooShort, NoSync, WrongLength, WrongChecksum, NoObservation, NoRoom, OtherForm, SmallBuffer, BadState, Ended, TooMuch, PastEnd, OtherLength, OtherSignal, TooWide}
use Rattle.refusal.specs.Numbers.{number_of}

numbered : (r : Refusal) → (0 < number_of r) × (number_of r < 100)
numbered TooShort = (omega arith, omega arith)
numbered NoSync = (omega arith, omega arith)
numbered WrongLength = (omega arith, omega arith)
numbered WrongChecksum = (omega arith, omega arith)
numbered NoObservation = (omega arith, omega arith)
numbered NoRoom = (omega arith, omega arith)
numbered OtherForm = (omega arith, omega arith)
numbered SmallBuffer = (omega arith, omega arith)
numbered BadState = (omega arith, omega arith)
numbered Ended = (omega arith, omega arith)
numbered TooMuch = (omega arith, omega arith)
numbered PastEnd = (omega arith, omega arith)
numbered OtherLength = (omega arith, omega arith)
numbered OtherSignal = (omega arith, omega arith)
numbered TooWide = (omega arith, omega arith)

pub positive : (r : Refusal) → 0 < number_of r
positive r = (numbered r).0

pub two_digits : (r : Refusal) → number_of r < 100
two_digits r = (numbered r).1
