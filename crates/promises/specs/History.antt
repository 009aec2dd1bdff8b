-- E8: the breaks of lock, over all messages so far, from the first: a list of messages to a list of lists. Definitions only.
use Rattle.std.specs.Prelude.{ℕ, ◌≡◌, cond, List, [], ◌∷◌, ◌++◌, map, ltb, eqb, Result, Ok, Err}
use Rattle.macm.specs.declared.Form.{Form}
use Rattle.macm.specs.declared.Form.TheVariants.{New, Old}
use Rattle.macm.specs.declared.Observation.{Observation}
use Rattle.macm.specs.Read.{head_of}
use Rattle.history.specs.declared.Appearance.{Appearance}
use Rattle.history.specs.Appearances.{appears, is_of}
use Rattle.history.specs.Breaks.{Entry, clock_back, new_lock, entry_of}
use Rattle.promises.specs.Again.{observations_of}
use Rattle.macm.specs.declared.Header.{Header}
use Rattle.refusal.specs.declared.Refusal.{Refusal}

-- ---- the appearances of SIDs in a message, in order: each observation's, with the time of the message
-- old messages and other TYPEs are passed over, and so is what is no message
abbrev pub seen_by : ℕ → Result (Header × ℕ) Refusal → List Observation → List Appearance
seen_by type (Err r) os = []
seen_by type (Ok (h, n)) os = cond (is_of type h.form) (map (appears h.time) os) []

abbrev pub seen_in : ℕ → List ℕ → List Appearance
seen_in type m = seen_by type (head_of m) (observations_of m)

-- a form that is passed over for this TYPE: the old one, and the new one with another TYPE
abbrev pub PassedOver : ℕ → Form → Type 0
PassedOver type (New signal tfom) = (signal ≡ type → ⊥)
PassedOver type (Old version) = Unit

-- ---- the breaks
-- the last appearance of a SID among some, if there is one
pub data Earlier : Type 0 where
  never : Earlier
  last : Appearance → Earlier

abbrev pub or_last : Earlier → Earlier → Earlier
or_last never earlier = earlier
or_last (last a) earlier = last a

unfoldable pub last_of : ℕ → List Appearance → Earlier
last_of sid [] = never
last_of sid (a ∷ rest) = or_last (last_of sid rest) (cond (eqb a.sid sid) (last a) never)

-- if the time is lower than the last, clock back; else if the lock count is lower, new lock; else nothing
abbrev pub break_since : Earlier → Appearance → List Entry
break_since never a = []
break_since (last b) a = cond (ltb a.time b.time) (entry_of a clock_back ∷ []) (cond (ltb a.lock b.lock) (entry_of a new_lock ∷ []) [])

-- at each appearance, by the last of its SID before it
unfoldable pub breaks_since : List Appearance → List Appearance → List Entry
breaks_since before [] = []
breaks_since before (a ∷ rest) = break_since (last_of a.sid before) a ++ breaks_since (before ++ (a ∷ [])) rest

-- a list for each message
unfoldable pub lists_since : List Appearance → List (List Appearance) → List (List Entry)
lists_since before [] = []
lists_since before (seen ∷ later) = breaks_since before seen ∷ lists_since (before ++ seen) later

-- of all messages, for one TYPE
abbrev pub history_of : ℕ → List (List ℕ) → List (List Entry)
history_of type ms = lists_since [] (map (seen_in type) ms)

-- ---- of one SID alone
unfoldable pub of_sid : ℕ → List Appearance → List Appearance
of_sid sid [] = []
of_sid sid (a ∷ rest) = cond (eqb a.sid sid) (a ∷ of_sid sid rest) (of_sid sid rest)

unfoldable pub entries_of : ℕ → List Entry → List Entry
entries_of sid [] = []
entries_of sid (e ∷ rest) = cond (eqb e.sid sid) (e ∷ entries_of sid rest) (entries_of sid rest)
