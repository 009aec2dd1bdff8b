-- The rows for the people who compute the track: one an observation. Definitions only.
use Rattle.std.specs.Prelude.{ℕ, zero, suc, List, [], ◌∷◌, ◌++◌, Result, Ok, Err}
use Rattle.text.specs.Word.{word}
use Rattle.text.specs.Columns.{space, newline, number_text, count_text}
use Rattle.text.specs.Digits.{digits, metres, hertz}
use Rattle.text.specs.Double.{nonfinite, cycles}
use Rattle.units.specs.Units.{lock_millis, millis_in}
use Rattle.macm.specs.Read.{claimed_head, observed_as}
use Rattle.macm.specs.declared.Form.{Form}
use Rattle.macm.specs.declared.Form.TheVariants.{New, Old}
use Rattle.macm.specs.declared.Header.{Header}
use Rattle.macm.specs.declared.Observation.{Observation}
use Rattle.track.specs.declared.Phase.{Phase}
use Rattle.track.specs.declared.Phase.TheVariants.{Withheld, NotFinite, PolarityUnknown, NotCorrected, DueHalf, PolarityUndefined}
use Rattle.track.specs.Range.{range_of}
use Rattle.track.specs.Shown.{phase_of}
use Rattle.lines.specs.Listing.{form_text}
use Rattle.refusal.specs.declared.Refusal.{Refusal}

-- the form, and TYPE, which the old form does not have
abbrev pub signal_text : Form → List ℕ
signal_text (New signal tfom) = form_text (New signal tfom) ++ number_text signal space
signal_text (Old version) = form_text (Old version) ++ word "- "

-- position of the message, time, form, TYPE
abbrev pub head_text : ℕ → Header → List ℕ
head_text position h = number_text position space ++ (number_text h.time space ++ signal_text h.form)

-- SID, C/N0, CONDITION, range in metres
abbrev pub range_text : Observation → List ℕ
range_text o = number_text o.sid space ++ (number_text o.cn0 space ++ (digits 16 4 o.condition ++ ((space ∷ []) ++ (metres (range_of o.pseudorange) ++ (space ∷ [])))))

-- a double that may be shown is shown by its bits
abbrev pub phase_text : Phase → ℕ → List ℕ
phase_text Withheld bits = word "withheld"
phase_text NotFinite bits = nonfinite
phase_text (PolarityUnknown double) bits = cycles bits
phase_text (NotCorrected double) bits = cycles bits
phase_text (DueHalf double) bits = cycles bits
phase_text (PolarityUndefined code double) bits = cycles bits

-- no polarity stands beside a phase that has no cycles, whatever its code; an undefined code stands behind its word
abbrev pub polarity_text : Phase → List ℕ
polarity_text Withheld = word "- "
polarity_text NotFinite = word "- "
polarity_text (PolarityUnknown double) = word "unknown "
polarity_text (NotCorrected double) = word "uncorrected "
polarity_text (DueHalf double) = word "half "
polarity_text (PolarityUndefined code double) = count_text (word "undefined") code space

-- phase in cycles, PHASE's sixteen digits, polarity
abbrev pub shown_text : Form → Observation → List ℕ
shown_text f o = phase_text (phase_of f o) o.phase ++ ((space ∷ []) ++ (digits 16 16 o.phase ++ ((space ∷ []) ++ polarity_text (phase_of f o))))

-- the columns of an observation: these, rate in hertz, time since lock in milliseconds
abbrev pub observation_text : Form → Observation → List ℕ
observation_text f o = range_text o ++ (shown_text f o ++ (hertz o.rate ++ ((space ∷ []) ++ number_text (millis_in (lock_millis o.lock)) newline)))

-- behind the columns of its message
abbrev pub row_text : List ℕ → Form → Result Observation Refusal → List ℕ
row_text head f (Err r) = []
row_text head f (Ok o) = head ++ observation_text f o

-- the rows of the first k of the n observations that a message m of a form has
unfoldable pub rows_up_to : ℕ → List ℕ → Form → ℕ → List ℕ → List ℕ
rows_up_to zero head f n m = []
rows_up_to (suc k) head f n m = rows_up_to k head f n m ++ row_text head f (observed_as f n m k)

abbrev pub head_rows : ℕ → Result (Header × ℕ) Refusal → List ℕ → List ℕ
head_rows position (Err r) m = []
head_rows position (Ok (h, n)) m = rows_up_to n (head_text position h) h.form n m

-- the rows of a message m, as its bytes claim it
abbrev pub rows_text : ℕ → List ℕ → List ℕ
rows_text position m = head_rows position (claimed_head m) m
