-- E2: what a range is, by how much one by the printed factor is low, and that a range tells which factor made it. Assumes nothing.
use Prim.Native.Nat.{ℕ, suc, ◌*◌, ◌^◌, ◌<◌}
use mathlib.Core.Path.{◌≡◌, refl}
use mathlib.Core.Bool.{Bool, true, false}
use mathlib.Core.Logic.{inl, inr}
use native.Mathlib.Omega.{arith}
use borrow.Author.Tests.{leb-true, leb-false}
use lib.Dec.{leb}
use Rattle.track.specs.Range.{range_of}
use Rattle.promises.specs.Range.{light, scale, Nearest, printed_of, Low, Doubtful}

-- as far as light goes in PR, to the nearest micrometre
pub as_far_as_light : (pseudorange : ℕ) → Nearest (range_of pseudorange) (pseudorange * light * 10 ^ 6) scale
unfolding range_of
as_far_as_light pseudorange = record { none_lower = omega arith; none_higher = omega arith }

pub printed_is_low : (pseudorange : ℕ) → Low pseudorange
unfolding range_of
printed_is_low pseudorange = record { never_high = omega arith; no_less = omega arith; no_more = omega arith }

-- Only a doubtful range is one of both factors: of p counts by light and of q by the printed one, where q is p, near nothing, or one more, near
-- 29,958.5 km. Where it is two more, p is no PR any longer.
pub tells : (p q : ℕ) → p < 2 ^ 32 → range_of p ≡ printed_of q → Doubtful p
unfolding range_of
tells p q l e = go (leb q p) (leb q (suc p)) refl refl
  where
    go : (a b : Bool) → leb q p ≡ a → leb q (suc p) ≡ b → Doubtful p
    go true b h k = let m = leb-true q p h in inl (omega arith)
    go false true h k =
        let m = leb-false q p h in
        let n = leb-true q (suc p) k in
        inr (omega arith, omega arith)
    go false false h k = let n = leb-false q (suc p) k in absurd (omega arith)
