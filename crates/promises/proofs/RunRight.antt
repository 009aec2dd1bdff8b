-- The run of feeds and finishes over any pieces, on lists alone, is the division of the whole stream. Assumes nothing.
use Prim.Native.Nat.{ℕ, zero, suc, ◌+◌, ◌≤◌, ◌<◌}
use mathlib.Core.Path.{◌≡◌, refl, ap}
use mathlib.Core.List.{List, [], ◌∷◌, ◌++◌, append-nil}
use native.Mathlib.Omega.{arith}
use lib.ListN.{length}
use Rattle.division.specs.Division.{Division, divide}
use Rattle.promises.specs.Run.{Run, unfinished, ended, gave, as_run, count}
use Rattle.stream.specs.Feed.{Fed, given, more, feed, finish}
use Rattle.promises.specs.Joined.{joined}
use Rattle.promises.specs.Calls.{offer}
use Rattle.promises.proofs.Left.{left_fed, feed_right, left_finish, finish_right}

-- a reader that goes on from what it holds, the gap bytes so far and the pieces to come
abbrev pub Reader : Type 0
Reader = List ℕ → ℕ → List (List ℕ) → Run

unfoldable pub then_fed : Reader → List (List ℕ) → Fed → Run
then_fed go ps (given g m h q) = gave g m (go h 0 (offer q ps))
then_fed go ps (more g h) = go h g ps

unfoldable pub then_finished : Reader → Fed → Run
then_finished go (given g m h q) = gave g m (go h 0 [])
then_finished go (more g h) = ended g

unfoldable pub run : ℕ → Reader
run zero held g ps = unfinished
run (suc n) held g [] = then_finished (run n) (finish held g)
run (suc n) held g (p ∷ ps) = then_fed (run n) ps (feed held g p)

pub joined_offer : (q : List ℕ) (ps : List (List ℕ)) → joined (offer q ps) ≡ q ++ joined ps
unfolding joined offer
joined_offer [] ps = refl
joined_offer (b ∷ q) ps = refl

length_offer : (q : List ℕ) (ps : List (List ℕ)) → length (offer q ps) ≤ suc (length ps)
unfolding offer
length_offer [] ps = omega arith
length_offer (b ∷ q) ps = omega arith

abbrev RunRight : ℕ → Type 0
RunRight n = (h : List ℕ) (g : ℕ) (ps : List (List ℕ)) → length ps + count (divide (h ++ joined ps) g) < n → run n h g ps ≡ as_run (divide (h ++ joined ps) g)

pub run_right : (n : ℕ) → RunRight n
unfolding run joined as_run then_fed then_finished
run_right zero h g ps l = absurd (omega arith)
run_right (suc n) h g [] l = rw append-nil (go (finish h g) (divide h g) (finish_right h g) (rw append-nil at l) (run_right n))
  where
    go : (f : Fed) (d : Division) → d ≡ left_finish f → 0 + count d < suc n → RunRight n → then_finished (run n) f ≡ as_run d
    go (given g m h q) d e l ih = rw e (ap (gave g m) (rw append-nil at (ih h 0 [] (rw append-nil (omega (arith, ap count e))))))
    go (more g h) d e l ih = rw e
run_right (suc n) h g (p ∷ ps) l = go (feed h g p) (divide (h ++ (p ++ joined ps)) g) (feed_right h p (joined ps) g) (omega arith) (run_right n)
  where
    go : (f : Fed) (d : Division) → d ≡ left_fed f (joined ps) → length ps + count d < n → RunRight n → then_fed (run n) ps f ≡ as_run d
    go (given g m h q) d e l ih =
        rw e (ap (gave g m) (rw joined_offer at (ih h 0 (offer q ps) (rw joined_offer (omega (arith, length_offer q ps, ap count e))))))
    go (more g h) d e l ih = rw e (ih h g ps (omega (arith, ap count e)))
