-- The plain reader: the next message of a slice from a start on, in the division from that start; and its companion. Definitions only.
use Rattle.std.specs.Prelude.{ℕ, ◌+◌, cond, List, [], length, take, drop, nat_lt, Result, Ok, Err}
use Rattle.refusal.specs.declared.Refusal.{Refusal}
use Rattle.refusal.specs.declared.Refusal.TheVariants.{PastEnd}
use Rattle.division.specs.declared.Next.{Next}
use Rattle.division.specs.declared.Next.TheVariants.{Message, End}
use Rattle.division.specs.Division.{Division, last, part, divide}

-- the first message of a division that begins at `start`: its position in the whole slice, its length and the gap before it; or the gap bytes left
abbrev pub first_of : ℕ → Division → Next
first_of start (last g) = End g
first_of start (part g m d) = Message (start + g) (length m) g

-- 12 where the start is past the end
unfoldable pub next_of : List ℕ → ℕ → Result Next Refusal
next_of s start = cond (nat_lt (length s) start) (Err PastEnd) (Ok (first_of start (divide (drop start s) 0)))

-- where the companion's part stands in the slice, and its bytes: nothing, at the slice's start, where there is no message
abbrev pub place_of : Result Next Refusal → ℕ
place_of (Err r) = 0
place_of (Ok (Message p n g)) = p
place_of (Ok (End g)) = 0

abbrev pub bytes_in : List ℕ → Result Next Refusal → List ℕ
bytes_in s (Err r) = []
bytes_in s (Ok (Message p n g)) = take n (drop p s)
bytes_in s (Ok (End g)) = []
