-- A walk over the positions of a list, in turn, to the first message or to the first that is not settled. Definitions only.
use Rattle.std.specs.Prelude.{ℕ, suc, ◌+◌, ◌%◌, ◌^◌, Bool, true, false, cond, List, [], ◌∷◌, length, take, nat_le, nat_lt}
use Rattle.macm.specs.Check.{agrees}
use Rattle.front.specs.declared.Claim.{Claim}
use Rattle.front.specs.declared.Claim.TheVariants.{Nothing, AtLeast, Long}
use Rattle.front.specs.Claim.{claim}
use Rattle.division.specs.declared.Passage.{Passage}
use Rattle.division.specs.declared.Walked.{Walked}
use Rattle.division.specs.declared.Walked.TheVariants.{Message, Unsettled}
use Rattle.division.specs.Work.{tested_in}

abbrev pub further : ℕ → ℕ → ℕ
further a b = cond (nat_lt a b) b a

-- a position that wants bytes: at the end of the stream none will come, so the walk goes on; else it stops there
abbrev pub wanting : Bool → ℕ → Walked → Walked
wanting true at on = on
wanting false at on = Unsettled at

-- a position whose whole length is here is settled by its checksum; either way the bytes up to its end were needed to settle it
unfoldable pub walked_by : Bool → Claim → List ℕ → ℕ → ℕ → (ℕ → Walked) → Walked
walked_by ended Nothing xs at reach on = on reach
walked_by ended (AtLeast k) xs at reach on = let r = on reach in wanting ended at r
walked_by ended (Long n) xs at reach on =
    let r = on reach in
    let t = on (further reach (at + n)) in
    cond (nat_le n (length xs)) (cond (agrees (take n xs)) (Message at n (further reach (at + n))) t) (wanting ended at r)

-- from position `at` on, where the bytes before `reach` settled the positions passed; `ended` says whether the stream ends behind the list
unfoldable pub walk_of : Bool → List ℕ → ℕ → ℕ → Walked
walk_of ended [] at reach = Unsettled at
walk_of ended (x ∷ xs) at reach = walked_by ended (claim (x ∷ xs)) (x ∷ xs) at reach (λ t. walk_of ended xs (suc at) t)

-- the positions that a walk from the first one on has settled: the gap bytes, and the message's own
abbrev pub settled : Walked → ℕ
settled (Message at n reach) = suc at
settled (Unsettled at) = at

-- a walk from the first position on, with the bytes run through the checksum for those that it settled, as far as 64 bits hold their number
abbrev pub whole_walk : Bool → List ℕ → Passage
whole_walk ended xs = record { walked = walk_of ended xs 0 0; summed = tested_in (settled (walk_of ended xs 0 0)) xs % 2 ^ 64 }
