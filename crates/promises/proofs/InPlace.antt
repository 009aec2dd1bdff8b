-- Blocks of a recording that are divided where they stand, whatever their lengths, give the messages and gaps of the division of the uncut stream and its
-- last gap, as `in_place_right` states: so many walks as blocks and messages, and two more, come to the end. Assumes nothing.
use Prim.Native.Nat.{ℕ, zero, suc, ◌+◌, ◌≤◌, ◌<◌}
use mathlib.Core.Path.{◌≡◌, sym, ap, ◌∙◌}
use mathlib.Core.Bool.{true, false}
use mathlib.Core.List.{List, [], ◌∷◌, ◌++◌, append_assoc, append-nil}
use native.Mathlib.Omega.{arith}
use lib.ListN.{length, take, drop}
use lib.Seq.{drop-drop}
use Rattle.division.specs.declared.Walked.{Walked}
use Rattle.division.specs.declared.Walked.TheVariants.{Message, Unsettled}
use Rattle.division.specs.Division.{Division, last, part, divide}
use Rattle.division.specs.Walk.{walk_of}
use Rattle.division.proofs.PlainSteps.{Ends, walk_ends}
use Rattle.stream.proofs.WalkScan.{Found, walk_scan}
use Rattle.promises.specs.Joined.{joined}
use Rattle.promises.specs.Run.{gave, ended, as_run, count}
use Rattle.promises.specs.InPlace.{after_walk, to_the_end, in_place}
use Rattle.promises.proofs.Left.{left, scan_more}

-- ---- what a walk leaves of the division
abbrev left_walked : Walked → List ℕ → List ℕ → ℕ → Division
left_walked (Message at n reach) xs ys g = part (g + at) (take n (drop at xs)) (divide (drop (at + n) xs ++ ys) 0)
left_walked (Unsettled at) xs ys g = divide (drop at xs ++ ys) (g + at)

walk_more : (xs ys : List ℕ) (g : ℕ) → divide (xs ++ ys) g ≡ left_walked (walk_of false xs 0 0) xs ys g
walk_more xs ys g = go (walk_of false xs 0 0) (walk_scan false xs 0 0)
  where
    go : (w : Walked) → Found false xs 0 w → divide (xs ++ ys) g ≡ left_walked w xs ys g
    go (Message at n reach) f =
        let z : f.ahead ≡ at = omega (arith, f.counted) in
        scan_more xs ys g ∙ ap (λ s. left s ys) (f.is g)
        ∙ ap (λ i. part (g + i) (take n (drop i xs)) (divide (drop n (drop i xs) ++ ys) 0)) z
        ∙ ap (λ r. part (g + at) (take n (drop at xs)) (divide (r ++ ys) 0)) (drop-drop n at xs)
    go (Unsettled at) f =
        let z : f.ahead ≡ at = omega (arith, f.counted) in
        scan_more xs ys g ∙ ap (λ s. left s ys) (f.is g) ∙ ap (λ i. divide (drop i xs ++ ys) (g + i)) z

-- the same at the end of the stream
abbrev left_at_end : Walked → List ℕ → ℕ → Division
left_at_end (Message at n reach) xs g = part (g + at) (take n (drop at xs)) (divide (drop (at + n) xs) 0)
left_at_end (Unsettled at) xs g = last (g + at)

walk_end : (xs : List ℕ) (g : ℕ) → divide xs g ≡ left_at_end (walk_of true xs 0 0) xs g
walk_end xs g = go (walk_of true xs 0 0) (walk_ends xs 0 0)
  where
    go : (w : Walked) → Ends xs 0 w → divide xs g ≡ left_at_end w xs g
    go (Message at n reach) f =
        let z : f.ahead ≡ at = omega (arith, f.counted) in
        f.is g
        ∙ ap (λ i. part (g + i) (take n (drop i xs)) (divide (drop n (drop i xs)) 0)) z
        ∙ ap (λ r. part (g + at) (take n (drop at xs)) (divide r 0)) (drop-drop n at xs)
    go (Unsettled at) f = let z : length xs ≡ at = omega (arith, f.0) in f.1 g ∙ ap (λ i. last (g + i)) z

-- ---- the walks, one after the other
abbrev EndRight : ℕ → Type 0
EndRight n = (xs : List ℕ) (g : ℕ) → count (divide xs g) < n → to_the_end n xs g ≡ as_run (divide xs g)

end_right : (n : ℕ) → EndRight n
unfolding to_the_end after_walk as_run
end_right zero xs g l = absurd (omega arith)
end_right (suc n) xs g l = go (walk_of true xs 0 0) (divide xs g) (walk_end xs g) l (end_right n)
  where
    go : (w : Walked) (d : Division) → d ≡ left_at_end w xs g → count d < suc n → EndRight n → after_walk xs g (λ r. to_the_end n r 0) (λ r gap. ended gap) w ≡ as_run d
    go (Message at m reach) d e l ih = rw e (ap (gave (g + at) (take m (drop at xs))) (ih (drop (at + m) xs) 0 (omega (arith, ap count e))))
    go (Unsettled at) d e l ih = rw e

abbrev InPlaceRight : ℕ → Type 0
InPlaceRight n = (xs : List ℕ) (g : ℕ) (bs : List (List ℕ)) → length bs + count (divide (xs ++ joined bs) g) + 2 ≤ n → in_place n xs g bs ≡ as_run (divide (xs ++ joined bs) g)

-- from any bytes in the buffer and any gap before them
pub in_place_from : (n : ℕ) → InPlaceRight n
unfolding in_place after_walk as_run joined
in_place_from zero xs g bs l = absurd (omega arith)
in_place_from (suc n) xs g [] l = go (walk_of false xs 0 0) (divide (xs ++ []) g) (walk_more xs [] g) l (in_place_from n)
  where
    go : (w : Walked) (d : Division) → d ≡ left_walked w xs [] g → 0 + count d + 2 ≤ suc n → InPlaceRight n
        → after_walk xs g (λ r. in_place n r 0 []) (λ r gap. to_the_end n r gap) w ≡ as_run d
    go (Message at m reach) d e l ih = rw e (ap (gave (g + at) (take m (drop at xs))) (ih (drop (at + m) xs) 0 [] (omega (arith, ap count e))))
    go (Unsettled at) d e l ih =
        let z : d ≡ divide (drop at xs) (g + at) = rw append-nil at e in
        rw z (end_right n (drop at xs) (g + at) (omega (arith, ap count z)))
in_place_from (suc n) xs g (b ∷ bs) l = go (walk_of false xs 0 0) (divide (xs ++ (b ++ joined bs)) g) (walk_more xs (b ++ joined bs) g) l (in_place_from n)
  where
    go : (w : Walked) (d : Division) → d ≡ left_walked w xs (b ++ joined bs) g → suc (length bs) + count d + 2 ≤ suc n → InPlaceRight n
        → after_walk xs g (λ r. in_place n r 0 (b ∷ bs)) (λ r gap. in_place n (r ++ b) gap bs) w ≡ as_run d
    go (Message at m reach) d e l ih = rw e (ap (gave (g + at) (take m (drop at xs))) (ih (drop (at + m) xs) 0 (b ∷ bs) (omega (arith, ap count e))))
    go (Unsettled at) d e l ih =
        let z : d ≡ divide ((drop at xs ++ b) ++ joined bs) (g + at) = e ∙ ap (λ (r : List ℕ). divide r (g + at)) (sym (append_assoc (drop at xs) b (joined bs))) in
        rw z (ih (drop at xs ++ b) (g + at) bs (omega (arith, ap count z)))

-- k blocks holding m messages, in at most k + m + 2 walks: one for each message; one for each block and one for the empty buffer before them, which come
-- to a position that is not settled; one that comes to the end
pub in_place_right : (blocks : List (List ℕ)) (n : ℕ) → length blocks + count (divide (joined blocks) 0) + 2 ≤ n → in_place n [] 0 blocks ≡ as_run (divide (joined blocks) 0)
in_place_right blocks n l = in_place_from n [] 0 blocks l
