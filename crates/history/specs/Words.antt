-- Where the numbers of a history stand among its words: TYPE; then for each SID whether it was seen, its last time and its last lock count. Any words are
-- a history: a seen word other than 0 is seen, and times and counts are the words that they are. Definitions only.
use Rattle.std.specs.Prelude.{ℕ, ◌+◌, ◌*◌, List, [], ◌∷◌, get_or, replicate}
use Rattle.octets.specs.Parts.{put}
use Rattle.history.specs.declared.Last.{Last}

-- one word, and three for each of 256 SIDs
abbrev pub history_words : ℕ
history_words = 769

-- the first of a SID's
abbrev pub last_at : ℕ → ℕ
last_at sid = 1 + 3 * sid

abbrev pub type_in : List ℕ → ℕ
type_in ws = get_or ws 0 0

abbrev pub last_from : List ℕ → ℕ → Last
last_from ws at = record { seen = get_or ws at 0; time = get_or ws (at + 1) 0; lock = get_or ws (at + 2) 0 }

abbrev pub last_in : List ℕ → ℕ → Last
last_in ws sid = last_from ws (last_at sid)

-- the SID was seen, with this time and lock count
unfoldable pub put_last : ℕ → ℕ → ℕ → List ℕ → List ℕ
put_last sid time lock ws = put (last_at sid) (1 ∷ time ∷ lock ∷ []) ws

-- nothing was seen
unfoldable pub fresh_words : ℕ → List ℕ
fresh_words signal = signal ∷ replicate 768 0
