-- What is said at an appearance, by the history's words, and what all appearances of a message leave. Definitions only.
use Rattle.std.specs.Prelude.{ℕ, cond, List, [], ◌∷◌, ◌++◌, ltb, eqb, Option, Some, None}
use Rattle.history.specs.declared.Appearance.{Appearance}
use Rattle.history.specs.declared.Break.{Break}
use Rattle.history.specs.declared.Break.TheVariants.{ClockBack, NewLock}
use Rattle.history.specs.declared.Last.{Last}
use Rattle.history.specs.Words.{last_in, put_last}

-- which of the two, as the list has it
abbrev pub clock_back : ℕ
clock_back = 1

abbrev pub new_lock : ℕ
new_lock = 2

abbrev pub number_of : Break → ℕ
number_of ClockBack = clock_back
number_of NewLock = new_lock

-- an entry is the SID, the message time and which of the two
pub record Entry : Type 0 where
  pub sid : ℕ
  pub time : ℕ
  pub which : ℕ

-- if the time is lower than the last, clock back; else if the lock count is lower, new lock; else nothing. All are whole numbers
abbrev pub compared : ℕ → ℕ → ℕ → ℕ → Option Break
compared last_time last_lock time lock = cond (ltb time last_time) (Some ClockBack) (cond (ltb lock last_lock) (Some NewLock) None)

-- of a SID that was seen before; of one that was not, nothing
abbrev pub said_of : Last → ℕ → ℕ → Option Break
said_of last time lock = cond (eqb last.seen 0) None (compared last.time last.lock time lock)

abbrev pub entry_of : Appearance → ℕ → Entry
entry_of a which = record { sid = a.sid; time = a.time; which = which }

abbrev pub entry_for : Appearance → Option Break → List Entry
entry_for a None = []
entry_for a (Some which) = entry_of a (number_of which) ∷ []

-- the numbers of a list: three for each entry
unfoldable pub numbers_of : List Entry → List ℕ
numbers_of [] = []
numbers_of (e ∷ es) = e.sid ∷ e.time ∷ e.which ∷ numbers_of es

-- ---- the history's words, and the entries so far
pub record Kept : Type 0 where
  pub words : List ℕ
  pub entries : List Entry

-- the last pair is replaced in every case
abbrev pub replaced : Appearance → List ℕ → List ℕ
replaced a ws = put_last a.sid a.time a.lock ws

abbrev pub entry_at : List ℕ → Appearance → List Entry
entry_at ws a = entry_for a (said_of (last_in ws a.sid) a.time a.lock)

abbrev pub after : Kept → Appearance → Kept
after k a = record { words = replaced a k.words; entries = k.entries ++ entry_at k.words a }

-- one appearance after the other
unfoldable pub after_all : Kept → List Appearance → Kept
after_all k [] = k
after_all k (a ∷ rest) = after_all (after k a) rest

abbrev pub begun : List ℕ → Kept
begun ws = record { words = ws; entries = [] }
