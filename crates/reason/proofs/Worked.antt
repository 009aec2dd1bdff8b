-- The reasons that E1 works out, from the definitions. Assumes nothing.
use Prim.Native.Nat.{ℕ, zero, suc}
use mathlib.Core.Path.{◌≡◌, refl}
use mathlib.Core.List.{List, [], ◌∷◌, ◌++◌}
use Rattle.std.specs.Prelude.{Result, Ok, map}
use lib.ListN.{replicate}
use Rattle.octets.specs.Begins.{common, fit}
use Rattle.octets.specs.Checksum.{checksum_from}
use Rattle.macm.specs.Check.{agrees}
use Rattle.front.specs.Claim.{counted, claim_by, claim}
use Rattle.front.specs.Look.{judged, look_by, look}
use Rattle.division.specs.Division.{length_of, stands, divided, divide_from, divide}
use Rattle.refusal.specs.declared.Refusal.{Refusal}
use Rattle.reason.specs.declared.Reason.{Reason}
use Rattle.reason.specs.declared.Reason.TheVariants.{Inside, Given, Sync, CutUnknown, CutShort, Checksum}
use Rattle.reason.specs.Reason.{summed, said_by, here_of, cover_in, reason_of}

-- MAC, then A, a message of the new form: the letters of its sync string and MAC are a sync string too
abbrev recording : List ℕ
recording = 0x4D ∷ 0x41 ∷ 0x43 ∷ 0x4D ∷ 0x41 ∷ 0x43 ∷ 0x32 ∷ 0x00 ∷ 0x00 ∷ 0x00 ∷ 0x0E ∷ 0xA0 ∷ 0x0C ∷ 0x90 ∷ 0x40 ∷ 0x7C ∷ 0x10 ∷ 0x00 ∷ 0x1E ∷ []

-- A with bit 1 of its checksum turned, then letters that are slips in bytes 4, 3 and 2, and at the end a sync string that is not whole
abbrev damaged : List ℕ
damaged = 0x4D ∷ 0x41 ∷ 0x43 ∷ 0x32 ∷ 0x00 ∷ 0x00 ∷ 0x00 ∷ 0x0E ∷ 0xA0 ∷ 0x0C ∷ 0x90 ∷ 0x40 ∷ 0x7C ∷ 0x10 ∷ 0x00 ∷ 0x1C ∷ []

abbrev slips : List ℕ
slips = 0x4D ∷ 0x41 ∷ 0x43 ∷ 0x33 ∷ 0x4D ∷ 0x41 ∷ 0x4D ∷ 0x4D ∷ 0x41 ∷ []

-- the reasons of the last k positions
abbrev reasons_of : List ℕ → ℕ → ℕ → List (Result Reason Refusal)
reasons_of s p zero = []
reasons_of s p (suc k) = reason_of s p ∷ reasons_of s (suc p) k

pub worked : reasons_of recording 0 19 ≡ map Ok (CutShort 1604 ∷ Sync 1 ∷ Sync 1 ∷ Given 16 ∷ replicate 15 (Inside 3))
unfolding fit checksum_from agrees counted claim_by claim judged look_by look length_of stands divided divide_from divide common summed said_by here_of cover_in reason_of
worked = refl

pub worked_damage : reasons_of (damaged ++ slips) 0 25 ≡ map Ok (Checksum 2 ∷ replicate 15 (Sync 1) ++ (Sync 4 ∷ Sync 1 ∷ Sync 1 ∷ Sync 1 ∷ Sync 3 ∷ Sync 1 ∷ Sync 2 ∷ CutUnknown ∷ Sync 1 ∷ []))
unfolding fit checksum_from agrees counted claim_by claim judged look_by look length_of stands divided divide_from divide common summed said_by here_of cover_in reason_of
worked_damage = refl
