-- A run over the blocks of a recording, each divided where it stands behind the rest of the one before. Definitions only.
use Rattle.std.specs.Prelude.{ℕ, zero, suc, ◌+◌, true, false, List, [], ◌∷◌, ◌++◌, take, drop}
use Rattle.division.specs.declared.Walked.{Walked}
use Rattle.division.specs.declared.Walked.TheVariants.{Message, Unsettled}
use Rattle.division.specs.Walk.{walk_of}
use Rattle.promises.specs.Run.{Run, unfinished, ended, gave}

-- after a walk of the bytes in the buffer, g gap bytes counted before them: a message is given, and the walks go on behind it; or the bytes before the
-- first position that is not settled are counted as gap, and the bytes from it on are kept
unfoldable pub after_walk : List ℕ → ℕ → (List ℕ → Run) → (List ℕ → ℕ → Run) → Walked → Run
after_walk bytes g behind keep (Message at n reach) = gave (g + at) (take n (drop at bytes)) (behind (drop (at + n) bytes))
after_walk bytes g behind keep (Unsettled at) = keep (drop at bytes) (g + at)

-- the stream ends behind the bytes, at most so many walks: from the end of each message on, until a walk gives none; what it passes is all that is left,
-- and gap
unfoldable pub to_the_end : ℕ → List ℕ → ℕ → Run
to_the_end zero bytes g = unfinished
to_the_end (suc n) bytes g = after_walk bytes g (λ rest. to_the_end n rest 0) (λ rest gap. ended gap) (walk_of true bytes 0 0)

-- at most so many walks, with the blocks to come: where a walk gives no message, the next block is appended to the kept bytes; where no block is left,
-- the kept bytes are walked to the end
unfoldable pub in_place : ℕ → List ℕ → ℕ → List (List ℕ) → Run
in_place zero bytes g blocks = unfinished
in_place (suc n) bytes g [] = after_walk bytes g (λ rest. in_place n rest 0 []) (λ rest gap. to_the_end n rest gap) (walk_of false bytes 0 0)
in_place (suc n) bytes g (b ∷ blocks) = after_walk bytes g (λ rest. in_place n rest 0 (b ∷ blocks)) (λ rest gap. in_place n (rest ++ b) gap blocks) (walk_of false bytes 0 0)
