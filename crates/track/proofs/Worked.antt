-- Worked values, from the definitions: 000's first observation, A's OFFSET, the phases at the edge, E2's ranges, and the smallest rows. Assumes nothing.
use Prim.Native.Nat.{ℕ}
use mathlib.Core.Path.{◌≡◌, refl}
use mathlib.Core.Bool.{true, false}
use lib.IntN.{pos, negsuc}
use lib.Ieee.{fin, of_bits, round}
use Rattle.units.specs.Units.{lock_of}
use Rattle.macm.specs.declared.Form.{Form}
use Rattle.macm.specs.declared.Form.TheVariants.{New, Old}
use Rattle.macm.specs.declared.Observation.{Observation}
use Rattle.track.specs.declared.Phase.TheVariants.{Withheld, NotFinite, PolarityUnknown, NotCorrected, DueHalf, PolarityUndefined}
use Rattle.track.specs.declared.Offset.TheVariants.{Metres}
use Rattle.track.specs.declared.Polarity.TheVariants.{NotCorrected as Uncorrected}
use Rattle.track.specs.declared.Condition.TheVariants.{Flagged}
use Rattle.track.specs.Condition.{polarity_of, flags_of, condition_of}
use Rattle.track.specs.Shown.{phase_of, offset_of}
use Rattle.track.specs.Range.{range_of}
use Rattle.track.specs.Row.{row_of}

abbrev new : Form
new = New 0 0

-- the first observation of 000's figure 1, with another CONDITION and PHASE
abbrev observed : ℕ → ℕ → Observation
observed condition bits = record { sid = 2; condition = condition; cn0 = 0x24; phase = bits; pseudorange = 0x7AB42464; rate = pos 9879081; lock = lock_of 617800 }

-- 000's table 6
pub condition : condition_of new (observed 0x053F 0) ≡ Flagged (record {
  satellite_health = true;
  pr_validity = true;
  phase_validity = true;
  rate_validity = true;
  pr_iono_corrected = true;
  phase_iono_corrected = true;
  pr_tropo_corrected = false;
  phase_tropo_corrected = false;
  polarity = Uncorrected;
  jam_detect = false;
  maker = 0;
})
unfolding flags_of polarity_of
condition = refl

-- -461291.428234963, which is -247653949774287 / 2 ^ 29
pub phase : phase_of new (observed 0x053F 0xC11C27ADB68339E0) ≡ NotCorrected (fin true 247653949774287 (negsuc 28))
unfolding of_bits polarity_of
phase = refl

-- the other codes: 0, 6 and 7, of which the last leaves a half and negative zero as they are
pub unknown : phase_of new (observed 0x0004 0x3FE0000000000000) ≡ PolarityUnknown (fin false 1 (negsuc 0))
unfolding of_bits polarity_of
unknown = refl

pub undefined : phase_of new (observed 0x0604 0x3FE0000000000000) ≡ PolarityUndefined 6 (fin false 1 (negsuc 0))
unfolding of_bits polarity_of
undefined = refl

pub due_half : phase_of new (observed 0x0704 0x3FE0000000000000) ≡ DueHalf (fin false 1 (negsuc 0))
unfolding of_bits polarity_of
due_half = refl

pub negative_zero : phase_of new (observed 0x0704 0x8000000000000000) ≡ DueHalf (fin true 0 (pos 0))
unfolding of_bits polarity_of
negative_zero = refl

-- whatever the code
pub infinite : phase_of new (observed 0x0704 0xFFF0000000000000) ≡ NotFinite
infinite = refl

pub nan_under_seven : phase_of new (observed 0x0704 0x7FF8000000000000) ≡ NotFinite
nan_under_seven = refl

pub not_valid : phase_of new (observed 0x07FB 0x7FF8000000000000) ≡ Withheld
not_valid = refl

pub old_form : phase_of (Old 2) (observed 0x053F 0xC11C27ADB68339E0) ≡ Withheld
old_form = refl

-- 4033 / 1024 m
pub offset : offset_of (record { form = new; time = 245370000; offset = 0x407C1000 }) ≡ Metres (fin false 4033 (negsuc 9))
unfolding of_bits
offset = refl

-- that observation's, 20572.02 km, and the longest
pub published_range : range_of (observed 0 0).pseudorange ≡ 20572019767066
unfolding range_of
published_range = refl

pub longest_range : range_of 4294967295 ≡ 42919960079922
unfolding range_of
longest_range = refl

-- no sign where there is no rate; 0.009993 m and -0.0001 Hz, as near as doubles are
pub row_of_nothing : row_of 0 (pos 0) ≡ record { range = fin false 0 (pos 0); rate = fin false 0 (pos 0) }
unfolding range_of round
row_of_nothing = refl

pub row_of_least : row_of 1 (negsuc 0) ≡ record { range = fin false 0x147735C182ECAF (negsuc 58); rate = fin true 0x1A36E2EB1C432D (negsuc 65) }
unfolding range_of round
row_of_least = refl
