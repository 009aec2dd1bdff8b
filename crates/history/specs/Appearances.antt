-- The appearances of SIDs in a message, in order: of one of the new form with this TYPE; an old message and one of another TYPE have none. Definitions only.
use Rattle.std.specs.Prelude.{ℕ, zero, suc, Bool, false, cond, List, [], ◌∷◌, ◌++◌, eqb, Result, Ok, Err}
use Rattle.units.specs.Units.{count_in}
use Rattle.macm.specs.Read.{observed_as}
use Rattle.macm.specs.declared.Form.{Form}
use Rattle.macm.specs.declared.Form.TheVariants.{New, Old}
use Rattle.macm.specs.declared.Header.{Header}
use Rattle.macm.specs.declared.Observation.{Observation}
use Rattle.history.specs.declared.Appearance.{Appearance}
use Rattle.refusal.specs.declared.Refusal.{Refusal}

-- an observation's: its SID and its lock count, with the time of its message
abbrev pub appears : ℕ → Observation → Appearance
appears time o = record { sid = o.sid; time = time; lock = count_in o.lock }

abbrev pub appearance_of : ℕ → Result Observation Refusal → List Appearance
appearance_of time (Err r) = []
appearance_of time (Ok o) = appears time o ∷ []

-- of the first k of the n observations that a message m of this form and time has
unfoldable pub appearances_up_to : ℕ → Form → ℕ → ℕ → List ℕ → List Appearance
appearances_up_to zero f time n m = []
appearances_up_to (suc k) f time n m = appearances_up_to k f time n m ++ appearance_of time (observed_as f n m k)

-- whether a message is of the new form with this TYPE
abbrev pub is_of : ℕ → Form → Bool
is_of type (New signal tfom) = eqb signal type
is_of type (Old version) = false

-- of a message m with this header and n observations
unfoldable pub appearances_in : ℕ → Header → ℕ → List ℕ → List Appearance
appearances_in type h n m = cond (is_of type h.form) (appearances_up_to n h.form h.time n m) []
