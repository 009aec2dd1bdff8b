-- Calls of a reader, one after the other, and what they come to. Definitions only.
use Rattle.std.specs.Prelude.{ℕ, zero, suc, ◌+◌, List, length, take, drop, Result, Ok, Err}
use Rattle.refusal.specs.declared.Refusal.{Refusal}
use Rattle.division.specs.declared.Next.{Next}
use Rattle.division.specs.declared.Next.TheVariants.{Message, End}
use Rattle.division.specs.Division.{Division, last, part}
use Rattle.division.specs.Plain.{next_of}

-- a call is refused; so many calls do not come to the end; the end with its gap bytes; gap bytes, a message, and the calls after it
pub data Run : Type 0 where
  refused : Refusal → Run
  unfinished : Run
  ended : ℕ → Run
  gave : ℕ → List ℕ → Run → Run

-- what a division asks of a run
unfoldable pub as_run : Division → Run
as_run (last g) = ended g
as_run (part g m d) = gave g m (as_run d)

-- the messages that a stream holds
abbrev pub count : Division → ℕ
count (last g) = 0
count (part g m d) = suc (count d)

-- no call was refused
abbrev pub NeverRefused : Run → Type 0
NeverRefused (refused r) = ⊥
NeverRefused unfinished = Unit
NeverRefused (ended g) = Unit
NeverRefused (gave g m r) = NeverRefused r

-- the calls came to the end
abbrev pub Finished : Run → Type 0
Finished (refused r) = ⊥
Finished unfinished = ⊥
Finished (ended g) = Unit
Finished (gave g m r) = Finished r

-- the lengths and the gaps together
abbrev pub lengths_and_gaps : Run → ℕ
lengths_and_gaps (refused r) = 0
lengths_and_gaps unfinished = 0
lengths_and_gaps (ended g) = g
lengths_and_gaps (gave g m r) = g + length m + lengths_and_gaps r

-- the plain reader, at most so many calls: each from the end of the message before
unfoldable pub read_on : List ℕ → (ℕ → Run) → Result Next Refusal → Run
read_on s go (Err r) = refused r
read_on s go (Ok (Message p n g)) = gave g (take n (drop p s)) (go (p + n))
read_on s go (Ok (End g)) = ended g

unfoldable pub read_plain : ℕ → List ℕ → ℕ → Run
read_plain zero s start = unfinished
read_plain (suc k) s start = read_on s (read_plain k s) (next_of s start)
