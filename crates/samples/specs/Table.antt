-- The sample table of document 01. Definitions only.
use Rattle.std.specs.Prelude.{ℕ, ◌≡◌, List, [], ◌∷◌, take, set}
use Rattle.octets.specs.Checksum.{checksum_of}
use Rattle.macm.specs.Check.{verdict}
use Rattle.macm.specs.Answers.{check_number}
use Rattle.track.specs.declared.Polarity.{Polarity}
use Rattle.track.specs.declared.Polarity.TheVariants.{NotCorrected}
use Rattle.track.specs.Range.{range_of}
use Rattle.track.specs.Condition.{flags_of}
use Rattle.division.specs.Division.{Division, last, part, divide}

abbrev pub A : List ℕ
A = 0x4D ∷ 0x41 ∷ 0x43 ∷ 0x32 ∷ 0x00 ∷ 0x00 ∷ 0x00 ∷ 0x0E ∷ 0xA0 ∷ 0x0C ∷ 0x90 ∷ 0x40 ∷ 0x7C ∷ 0x10 ∷ 0x00 ∷ 0x1E ∷ []

abbrev pub B : List ℕ
B = 0x4D ∷ 0x41 ∷ 0x43 ∷ 0x4D ∷ 0x02 ∷ 0x00 ∷ 0x0E ∷ 0xA0 ∷ 0x0C ∷ 0x90 ∷ 0x40 ∷ 0x7C ∷ 0x10 ∷ 0x00 ∷ 0x1C ∷ []

-- a line of the table: bytes and what the check answers; bytes and their checksum; PR and its range; CONDITION and its polarity;
-- a stream and its division
pub data Sample : Type 0 where
  checked : List ℕ → ℕ → Sample
  summed : List ℕ → ℕ → Sample
  ranged : ℕ → ℕ → Sample
  polarised : ℕ → Polarity → Sample
  divided : List ℕ → Division → Sample

abbrev pub Holds : Sample → Type 0
Holds (checked m n) = (check_number (verdict m) ≡ n)
Holds (summed m n) = (checksum_of m ≡ n)
Holds (ranged pseudorange n) = (range_of pseudorange ≡ n)
Holds (polarised condition p) = ((flags_of condition).polarity ≡ p)
Holds (divided stream d) = (divide stream 0 ≡ d)

unfoldable pub All : List Sample → Type 0
All [] = Unit
All (s ∷ ss) = Holds s × All ss

-- S1 empty. S2 the first 14 bytes of B. S3 A. S4 B. S5 A ending in 1F. S6 A with byte 4 made 4D. S7 A with byte 7 made 01.
-- S8 A without its last byte. S9 the checksum of 96 85 C1. S10 PR 1. S11 CONDITION 053F.
-- S12 the stream 4D 41 43 then A
abbrev pub table : List Sample
table =
    checked [] 1 ∷ checked (take 14 B) 1 ∷ checked A 0 ∷ checked B 0 ∷ checked (set A 15 0x1F) 4 ∷ checked (set A 3 0x4D) 3 ∷ checked (set A 6 0x01) 3
    ∷ checked (take 15 A) 3 ∷ summed (0x96 ∷ 0x85 ∷ 0xC1 ∷ []) 0xD2 ∷ ranged 1 9993 ∷ polarised 0x053F NotCorrected
    ∷ divided (0x4D ∷ 0x41 ∷ 0x43 ∷ A) (part 3 A (last 0)) ∷ []
