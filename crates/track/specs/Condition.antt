-- CONDITION, by 000's table 5 in the new form. Definitions only.
use Rattle.std.specs.Prelude.{ℕ, ◌+◌, ◌*◌, ◌/◌, ◌%◌, ◌^◌, Bool, cond, eqb}
use Rattle.macm.specs.declared.Form.{Form}
use Rattle.macm.specs.declared.Form.TheVariants.{New, Old}
use Rattle.macm.specs.declared.Observation.{Observation}
use Rattle.track.specs.declared.Polarity.{Polarity}
use Rattle.track.specs.declared.Polarity.TheVariants.{NotKnown, NotCorrected, NeedsHalfCycle, Undefined}
use Rattle.track.specs.declared.Flags.{Flags}
use Rattle.track.specs.declared.Condition.{Condition}
use Rattle.track.specs.declared.Condition.TheVariants.{Flagged, MakerDefined}

-- bit k is set
abbrev pub bit : ℕ → ℕ → Bool
bit k n = eqb (n / 2 ^ k % 2) 1

-- the code of PHASE Polarity State, bits 8 to 10
abbrev pub polarity_code : ℕ → ℕ
polarity_code condition = condition / 2 ^ 8 % 2 ^ 3

-- what a code says, of which 0, 5 and 7 are defined
unfoldable pub polarity_of : ℕ → Polarity
polarity_of code = cond (eqb code 0) NotKnown (cond (eqb code 5) NotCorrected (cond (eqb code 7) NeedsHalfCycle (Undefined code)))

unfoldable pub flags_of : ℕ → Flags
flags_of condition =
    record {
      satellite_health = bit 0 condition;
      pr_validity = bit 1 condition;
      phase_validity = bit 2 condition;
      rate_validity = bit 3 condition;
      pr_iono_corrected = bit 4 condition;
      phase_iono_corrected = bit 5 condition;
      pr_tropo_corrected = bit 6 condition;
      phase_tropo_corrected = bit 7 condition;
      polarity = polarity_of (polarity_code condition);
      jam_detect = bit 11 condition;
      maker = condition / 2 ^ 12;
    }

-- in the old form every bit is the maker's
abbrev pub condition_of : Form → Observation → Condition
condition_of (New signal tfom) o = Flagged (flags_of o.condition)
condition_of (Old version) o = MakerDefined o.condition

-- ---- the number of each case: a polarity's code, and CONDITION from all that is said of it
abbrev pub code_in : Polarity → ℕ
code_in NotKnown = 0
code_in NotCorrected = 5
code_in NeedsHalfCycle = 7
code_in (Undefined code) = code

-- what bit k is worth, if it is set
abbrev pub worth : ℕ → Bool → ℕ
worth k set = cond set (2 ^ k) 0

abbrev pub condition_in : Condition → ℕ
condition_in (Flagged f) =
    worth 0 f.satellite_health + worth 1 f.pr_validity + worth 2 f.phase_validity + worth 3 f.rate_validity
    + worth 4 f.pr_iono_corrected + worth 5 f.phase_iono_corrected + worth 6 f.pr_tropo_corrected + worth 7 f.phase_tropo_corrected
    + code_in f.polarity * 2 ^ 8 + worth 11 f.jam_detect + f.maker * 2 ^ 12
condition_in (MakerDefined condition) = condition
