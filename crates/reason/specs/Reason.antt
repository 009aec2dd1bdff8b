-- Why a position of a recording is the first byte of a message that is given, or is not. Definitions only.
use Rattle.std.specs.Prelude.{ℕ, suc, ◌+◌, ◌-◌, cond, List, [], ◌∷◌, length, drop, ltb, leb, eqb, Result, Ok, Err}
use Rattle.octets.specs.Begins.{common}
use Rattle.octets.specs.Checksum.{checksum_of}
use Rattle.octets.specs.Parts.{part as part_of}
use Rattle.refusal.specs.declared.Refusal.{Refusal}
use Rattle.refusal.specs.declared.Refusal.TheVariants.{PastEnd}
use Rattle.macm.specs.Form.{new_sync, old_sync}
use Rattle.front.specs.declared.Claim.{Claim}
use Rattle.front.specs.declared.Claim.TheVariants.{Nothing, AtLeast, Long}
use Rattle.front.specs.Claim.{claim}
use Rattle.division.specs.Division.{Division, last, part, divide}
use Rattle.division.specs.Walk.{further}
use Rattle.reason.specs.declared.Reason.{Reason}
use Rattle.reason.specs.declared.Reason.TheVariants.{Inside, Given, Sync, CutUnknown, CutShort, Checksum}

-- ---- at the first of some bytes, which no message covers

-- the byte, counted from 1, that is the first to fit neither sync string
abbrev pub wrong_at : List ℕ → ℕ
wrong_at xs = suc (further (common new_sync xs) (common old_sync xs))

-- of a message of n bytes: the exclusive or of byte 5 up to and with the checksum, which is 0 where the checksum agrees
abbrev pub residue_of : ℕ → List ℕ → ℕ
residue_of n xs = checksum_of (part_of 4 (n - 4) xs)

unfoldable pub summed : ℕ → ℕ → Reason
summed n residue = cond (eqb residue 0) (Given n) (Checksum residue)

-- by what the bytes claim to be: of a message whose length is known, by the bytes that are missing, then by the checksum
unfoldable pub said_by : Claim → List ℕ → Reason
said_by Nothing xs = Sync (wrong_at xs)
said_by (AtLeast k) xs = CutUnknown
said_by (Long n) xs = let s = summed n (residue_of n xs) in cond (leb n (length xs)) s (CutShort (n - length xs))

unfoldable pub here_of : List ℕ → Result Reason Refusal
here_of [] = Err PastEnd
here_of (x ∷ xs) = Ok (said_by (claim (x ∷ xs)) (x ∷ xs))

-- ---- at a position of a recording

-- where the given message begins that covers position p, or p itself where none does: of a division that begins at `at`
unfoldable pub cover_in : Division → ℕ → ℕ → ℕ
cover_in (last g) at p = p
cover_in (part g m d) at p = cond (ltb p (at + g + length m)) (cond (ltb (at + g) p) (at + g) p) (cover_in d (at + g + length m) p)

abbrev pub cover_of : List ℕ → ℕ → ℕ
cover_of s p = cover_in (divide s 0) 0 p

-- inside a given message comes first; 12 at or past the end
unfoldable pub reason_of : List ℕ → ℕ → Result Reason Refusal
reason_of s p = cond (ltb p (length s)) (cond (ltb (cover_of s p) p) (Ok (Inside (cover_of s p))) (here_of (drop p s))) (Err PastEnd)
