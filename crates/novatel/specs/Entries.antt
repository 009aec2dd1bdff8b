-- Reading and writing a record. Definitions only.
use Rattle.std.specs.Prelude.{ℕ, Bool, cond, ◌&&◌, List, length, eqb, leb, Result, Ok, Err}
use Rattle.octets.specs.Parts.{over}
use Rattle.bits.specs.Fields.{cut}
use Rattle.refusal.specs.declared.Refusal.TheVariants.{NoRoom, OtherLength, OtherSignal, TooWide}
use Rattle.novatel.specs.declared.Record.{Record}
use Rattle.novatel.specs.Record.{record_of, record_bytes, fits}
use Rattle.novatel.specs.Rolls.{rolls_of, corrected_of}
use Rattle.novatel.specs.declared.Corrected.{Corrected}
use Rattle.refusal.specs.declared.Refusal.{Refusal}

-- 13 for a length other than 24
unfoldable pub reading_of : List ℕ → Result Record Refusal
reading_of s = cond (eqb (length s) 24) (Ok (record_of s)) (Err OtherLength)

-- 23 for a number that its field cannot hold, then 6
unfoldable pub writing_of : Record → List ℕ → Result ℕ Refusal
writing_of r out = cond (fits r) (cond (leb 24 (length out)) (Ok 24) (Err NoRoom)) (Err TooWide)

-- bytes behind the record stay; a refusal changes nothing
unfoldable pub writing_bytes : Record → List ℕ → List ℕ
writing_bytes r out = cond (fits r) (cond (leb 24 (length out)) (over (record_bytes r) out) out) out

-- the status says GPS L1 C/A: its system, bits 16 to 18, and its signal, bits 21 to 25, are both 0
unfoldable pub says_gps : ℕ → Bool
says_gps status = eqb (cut 16 3 status) 0 && eqb (cut 21 5 status) 0

-- of a record that says so, 22 of any other
unfoldable pub correction_in : Record → Result Corrected Refusal
correction_in r = cond (says_gps r.status) (Ok (record { rolls = rolls_of r.range r.adr; adr = corrected_of r.range r.adr })) (Err OtherSignal)

-- 13 for a length other than 24, then 22
unfoldable pub correction_of : List ℕ → Result Corrected Refusal
correction_of s = cond (eqb (length s) 24) (correction_in (record_of s)) (Err OtherLength)
