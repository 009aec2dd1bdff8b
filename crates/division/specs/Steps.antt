-- What the private steps of the walk say of each other: no public contract cites these. Definitions only.
use Rattle.std.specs.Prelude.{◌≡◌, ℕ, suc, ◌+◌, ◌<◌, ◌≤◌, Bool, ◌⊎◌, List, length, drop, ◌≢◌, slice_index}
use Rattle.division.specs.declared.Step.{Step}
use Rattle.division.specs.declared.Step.TheVariants.{Gap, Wants, Message}
use Rattle.division.specs.declared.Walked.TheVariants.{Message as Found}
use Rattle.division.specs.Walk.{wanting, walk_of}
use Rattle.division.specs.Work.{tested_in}

-- no sync string starts at index i: no M stands there, or no A behind it
abbrev pub NoStart : List ℕ → ℕ → Type 0
NoStart s i = (slice_index s i ≢ 0x4D) ⊎ ((i + 1 < length s) × (slice_index s (i + 1) ≢ 0x41))

-- none starts from `from` up to r
pub record Skipped (s : List ℕ) (from r : ℕ) : Type 0 where
  pub from_on : from ≤ r
  pub within : r ≤ length s
  pub none : (i : ℕ) → from ≤ i → i < r → NoStart s i

-- a walk from the position, whether the stream ends behind the list or not, and the bytes tested for it
abbrev pub Stepped : List ℕ → ℕ → ℕ → Step → Type 0
Stepped s at reach (Gap at' reach' u) =
    (at < at') × (at' ≤ length s) × ((ended : Bool) → walk_of ended (drop at s) at reach ≡ walk_of ended (drop at' s) at' reach') × (tested_in at' s ≡ tested_in at s + u)
Stepped s at reach Wants =
    ((ended : Bool) → walk_of ended (drop at s) at reach ≡ wanting ended at (walk_of ended (drop (at + 1) s) (at + 1) reach)) × (tested_in (at + 1) s ≡ tested_in at s)
Stepped s at reach (Message n reach' u) = ((ended : Bool) → walk_of ended (drop at s) at reach ≡ Found at n reach') × (tested_in (suc at) s ≡ tested_in at s + u)
