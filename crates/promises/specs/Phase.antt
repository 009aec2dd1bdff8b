-- E6 as the request words it: the cases of a phase, each with what it is answered for. Definitions only.
use Rattle.std.specs.Prelude.{ℕ, ◌≤◌, ◌≡◌, ◌⊎◌, T, Float}
use Rattle.std.specs.Float.{binary64}
use Rattle.std.specs.Float.Ieee.{of_bits, to_bits}
use Rattle.std.specs.Float.Ieee.Scale.{finite}
use Rattle.macm.specs.declared.Form.{Form}
use Rattle.macm.specs.declared.Form.TheVariants.{New, Old}
use Rattle.macm.specs.declared.Observation.{Observation}
use Rattle.track.specs.declared.Phase.{Phase}
use Rattle.track.specs.declared.Phase.TheVariants.{Withheld, NotFinite, PolarityUnknown, NotCorrected, DueHalf, PolarityUndefined}
use Rattle.track.specs.Condition.{bit, polarity_code}

-- CONDITION's flag, PHASE Validity, bit 2, which the new form alone has
abbrev pub Flagged : Form → Observation → Type 0
Flagged (Old version) o = ⊥
Flagged (New signal tfom) o = T (bit 2 o.condition)

-- PHASE's double, which is an infinity, a NaN, or finite
abbrev pub double : Observation → Float
double o = of_bits binary64 o.phase

abbrev pub Finite : Observation → Type 0
Finite o = T (finite (double o))

-- the codes that 000 does not define
abbrev pub Undefined : ℕ → Type 0
Undefined k = ((1 ≤ k) × (k ≤ 4)) ⊎ (k ≡ 6)

-- the flag is set, PHASE is finite, its polarity's code is k, and x is its double, with its bits
pub record Cycles (k : ℕ) (x : Float) (f : Form) (o : Observation) : Type 0 where
  pub flagged : Flagged f o
  pub is_finite : Finite o
  pub coded : polarity_code o.condition ≡ k
  pub same_double : x ≡ double o
  pub same_bits : to_bits binary64 x ≡ o.phase

-- flag, then finite, then polarity
abbrev pub Answered : Phase → Form → Observation → Type 0
Answered Withheld f o = Flagged f o → ⊥
Answered NotFinite f o = Flagged f o × (Finite o → ⊥)
Answered (PolarityUnknown x) f o = Cycles 0 x f o
Answered (NotCorrected x) f o = Cycles 5 x f o
Answered (DueHalf x) f o = Cycles 7 x f o
Answered (PolarityUndefined k x) f o = Undefined k × Cycles k x f o

-- the number n of a kind for C, each with what it says, in the order of the tests
abbrev pub KindTable : Form → Observation → ℕ → Type 0
KindTable f o n =
    let code = polarity_code o.condition in
    ((n ≡ 0) × (Flagged f o → ⊥))
    ⊎ (Flagged f o
    × (((n ≡ 1) × (Finite o → ⊥))
    ⊎ (Finite o × (((n ≡ 2) × (code ≡ 0)) ⊎ ((n ≡ 3) × (code ≡ 5)) ⊎ ((n ≡ 4) × (code ≡ 7)) ⊎ ((n ≡ 5) × Undefined code)))))
