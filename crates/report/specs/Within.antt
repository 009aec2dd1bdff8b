-- Where a walk stops: within the bytes that it walked over. Definitions only.
use Rattle.std.specs.Prelude.{ℕ, ◌+◌, ◌≤◌}
use Rattle.division.specs.declared.Walked.{Walked}
use Rattle.division.specs.declared.Walked.TheVariants.{Message, Unsettled}

-- of so many bytes
abbrev pub Within : ℕ → Walked → Type 0
Within len (Message at n reach) = at + n ≤ len
Within len (Unsettled at) = at ≤ len
