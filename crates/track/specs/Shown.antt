-- PHASE and OFFSET as they may be shown. Definitions only.
use Rattle.std.specs.Prelude.{ℕ, suc, ◌/◌, ◌%◌, ◌≡◌, Bool, cond, T, eqb, Float}
use Rattle.std.specs.Float.{Format, binary32, binary64}
use Rattle.std.specs.Float.Ieee.{hid, ones, of_bits, to_bits}
use Rattle.std.specs.Float.Ieee.Scale.{finite}
use Rattle.macm.specs.declared.Form.{Form}
use Rattle.macm.specs.declared.Form.TheVariants.{New, Old}
use Rattle.macm.specs.declared.Header.{Header}
use Rattle.macm.specs.declared.Observation.{Observation}
use Rattle.track.specs.declared.Phase.{Phase}
use Rattle.track.specs.declared.Phase.TheVariants.{Withheld, NotFinite, PolarityUnknown, NotCorrected, DueHalf, PolarityUndefined}
use Rattle.track.specs.declared.Offset.{Offset}
use Rattle.track.specs.declared.Offset.TheVariants.{NotFinite as OffsetNotFinite, Metres}
use Rattle.track.specs.declared.Polarity.{Polarity}
use Rattle.track.specs.declared.Polarity.TheVariants.{NotKnown, NotCorrected as Uncorrected, NeedsHalfCycle, Undefined}
use Rattle.track.specs.Condition.{bit, polarity_code, polarity_of}

-- the exponent's field, between the sign and the digits (`hid` is what its lowest bit is worth, `ones` the field with every bit set)
abbrev pub exponent : Format → ℕ → ℕ
exponent f bits = bits / hid f % suc (ones f)

-- as in every infinity and NaN
abbrev pub all_ones : Format → ℕ → Bool
all_ones f bits = eqb (exponent f bits) (ones f)

-- what is shown of cycles, by their polarity
abbrev pub cycles_with : Polarity → Float → Phase
cycles_with NotKnown x = PolarityUnknown x
cycles_with Uncorrected x = NotCorrected x
cycles_with NeedsHalfCycle x = DueHalf x
cycles_with (Undefined code) x = PolarityUndefined code x

-- withheld in the old form and if CONDITION bit 2 is clear; else not finite if the exponent is all ones; else the double with the same bits, by its
-- polarity
abbrev pub phase_of : Form → Observation → Phase
phase_of (Old version) o = Withheld
phase_of (New signal tfom) o =
    cond (bit 2 o.condition)
    (cond (all_ones binary64 o.phase) NotFinite (cycles_with (polarity_of (polarity_code o.condition)) (of_bits binary64 o.phase)))
    Withheld

-- in both forms alike
abbrev pub offset_of : Header → Offset
offset_of h = cond (all_ones binary32 h.offset) OffsetNotFinite (Metres (of_bits binary32 h.offset))

-- ---- the value of each case: none, or one that is finite and has just the bits of the message
abbrev pub HasBits : Format → Float → ℕ → Type 0
HasBits f x bits = (to_bits f x ≡ bits) × T (finite x)

abbrev pub PhaseShows : Phase → ℕ → Type 0
PhaseShows Withheld bits = Unit
PhaseShows NotFinite bits = Unit
PhaseShows (PolarityUnknown x) bits = HasBits binary64 x bits
PhaseShows (NotCorrected x) bits = HasBits binary64 x bits
PhaseShows (DueHalf x) bits = HasBits binary64 x bits
PhaseShows (PolarityUndefined code x) bits = HasBits binary64 x bits

abbrev pub OffsetShows : Offset → ℕ → Type 0
OffsetShows OffsetNotFinite bits = Unit
OffsetShows (Metres x) bits = HasBits binary32 x bits
