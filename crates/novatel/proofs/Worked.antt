-- 003's record, read and written, each field at its place; its deviations and its rolls; and rolls that doubles get wrong. Assumes nothing.
use Rattle.std.specs.Prelude.{Ok}
use Prim.Native.Nat.{ℕ}
use mathlib.Core.Path.{◌≡◌, refl}
use mathlib.Core.List.{List, [], ◌∷◌}
use lib.IntN.{pos, negsuc}
use Rattle.bits.specs.Little.{little, little_bytes}
use Rattle.bits.specs.Fields.{field_of}
use Rattle.bits.specs.Joined.{joined}
use Rattle.novatel.specs.declared.Record.{Record}
use Rattle.novatel.specs.Record.{record_of, record_bytes, fields_of}
use Rattle.novatel.specs.Deviations.{range_deviation, adr_deviation}
use Rattle.novatel.specs.Entries.{says_gps, correction_in, correction_of}
use Rattle.novatel.specs.Rolls.{rolls_of, corrected_of}

abbrev published : List ℕ
published =
    0x24 ∷ 0x9C ∷ 0x10 ∷ 0x08 ∷ 0x0E ∷ 0x63 ∷ 0x06 ∷ 0x20 ∷ 0x6A ∷ 0xBA ∷ 0xF7 ∷ 0x0B ∷ 0x29 ∷ 0x7A ∷ 0xE7 ∷ 0xF9 ∷ 0x40 ∷ 0x1B ∷ 0x81 ∷ 0x8E ∷ 0x01 ∷ 0x03 ∷ 0x00 ∷ 0x00 ∷ []

abbrev its_fields : Record
its_fields =
    record {
      status = 0x08109C24;
      doppler = pos 418574;
      range = 3212551842;
      adr = negsuc 102270422;
      range_deviation = 0;
      adr_deviation = 4;
      prn = 27;
      lock = 102017;
      cn0 = 44;
      reserved = 0;
    }

pub read_places : record_of published ≡ its_fields
unfolding record_of field_of little
read_places = refl

pub written_places : record_bytes its_fields ≡ published
unfolding record_bytes fields_of joined little_bytes
written_places = refl

pub deviations_of_it : (range_deviation 0 ≡ 50) × (adr_deviation 4 ≡ 5)
deviations_of_it = (refl, refl)

pub corrected_places : correction_of published ≡ Ok (record { rolls = pos 16; adr = negsuc 34462008790 })
unfolding correction_of correction_in says_gps record_of field_of little rolls_of corrected_of
corrected_places = refl

-- ---- rolls that doubles get wrong
pub beyond_doubles : (rolls_of 28222569217 (negsuc 1342202898) ≡ pos 137) × (rolls_of 22179300586 (negsuc 104046686) ≡ pos 108)
unfolding rolls_of
beyond_doubles = (refl, refl)

-- ---- halves, and one less in size
pub halves : (rolls_of 0 (pos 1073741824) ≡ pos 1) × (rolls_of 0 (negsuc 1073741823) ≡ negsuc 0)
unfolding rolls_of
halves = (refl, refl)

pub under_halves : (rolls_of 0 (pos 1073741823) ≡ pos 0) × (rolls_of 0 (negsuc 1073741822) ≡ pos 0)
unfolding rolls_of
under_halves = (refl, refl)

-- ---- the longest range, with the least ADR and the largest
pub longest : (rolls_of 68719476735 (negsuc 2147483647) ≡ pos 335) × (rolls_of 68719476735 (pos 2147483647) ≡ pos 337)
unfolding rolls_of
longest = (refl, refl)
