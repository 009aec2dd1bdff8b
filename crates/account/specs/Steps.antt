-- What the private steps of the account say of each other: no public contract cites these. Definitions only.
use Rattle.std.specs.Prelude.{ℕ, Result, Ok, Err}
use Rattle.reason.specs.declared.Reason.{Reason}
use Rattle.reason.specs.declared.Reason.TheVariants.{Inside, Given, Sync, CutUnknown, CutShort, Checksum}
use Rattle.refusal.specs.declared.Refusal.{Refusal}

-- how far the next position lies that no message covers: behind a given message, else one on
abbrev pub span_of : Result Reason Refusal → ℕ
span_of (Err r) = 1
span_of (Ok (Inside q)) = 1
span_of (Ok (Given n)) = n
span_of (Ok (Sync k)) = 1
span_of (Ok CutUnknown) = 1
span_of (Ok (CutShort n)) = 1
span_of (Ok (Checksum residue)) = 1

abbrev pub inside_of : ℕ → ℕ → Result Reason Refusal
inside_of start p = Ok (Inside start)
