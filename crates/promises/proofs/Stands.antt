-- What stands at the front of a list is no longer than the list. Assumes nothing.
use Prim.Native.Nat.{ℕ, ◌≤◌}
use mathlib.Core.Path.{◌≡◌}
use mathlib.Core.List.{List, []}
use native.Mathlib.Omega.{arith}
use lib.ListN.{length}
use Rattle.front.specs.Look.{Look, unsettled, gap, message, look}
use Rattle.front.proofs.Bounds.{LookFact, look_fact}
use Rattle.division.specs.Division.{length_of, stands}
use Rattle.division.proofs.DivideSteps.{look_nil}

pub stands_nil : stands [] ≡ 0
unfolding stands length_of
stands_nil = rw look_nil

pub stands_le : (xs : List ℕ) → stands xs ≤ length xs
unfolding stands length_of
stands_le xs = go (look xs) (look_fact xs)
  where
    go : (l : Look) → LookFact xs l → length_of l ≤ length xs
    go unsettled h = omega arith
    go gap h = omega arith
    go (message n) h = h.1
