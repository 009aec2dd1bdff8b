-- The run that a division asks for: no call is refused, it comes to the end, and its lengths and gaps add up to all the bytes. Assumes nothing.
use Prim.Native.Nat.{ℕ, zero, suc, ◌+◌, ◌-◌, ◌≤◌}
use mathlib.Core.Path.{◌≡◌}
use mathlib.Core.List.{List, [], ◌∷◌}
use native.Mathlib.Nat.{le_of_suc-le-suc}
use native.Mathlib.Omega.{arith}
use lib.ListN.{length}
use lib.Seq.{length-take-le}
use Rattle.division.specs.Division.{Division, last, part, stands, divided, divide_from, divide}
use Rattle.promises.specs.Run.{as_run, NeverRefused, Finished, lengths_and_gaps}
use Rattle.promises.proofs.Stands.{stands_le}

pub never_refused : (d : Division) → NeverRefused (as_run d)
unfolding as_run
never_refused (last g) = tt
never_refused (part g m d) = never_refused d

pub finished : (d : Division) → Finished (as_run d)
unfolding as_run
finished (last g) = tt
finished (part g m d) = finished d

abbrev all : Division → ℕ
all d = lengths_and_gaps (as_run d)

from_bytes : (s : ℕ) (xs : List ℕ) (g : ℕ) → all (divide_from s xs g) ≡ g + (length xs - s)
unfolding divide_from divided as_run
from_bytes zero [] g = omega arith
from_bytes (suc s) [] g = omega arith
from_bytes (suc s) (x ∷ xs) g = omega (arith, from_bytes s xs g)
from_bytes zero (x ∷ xs) g = go (stands (x ∷ xs)) (stands_le (x ∷ xs)) (from_bytes zero xs (suc g)) (λ n. from_bytes n xs 0)
  where
    go : (n : ℕ) → n ≤ length (x ∷ xs) → all (divide_from zero xs (suc g)) ≡ suc g + (length xs - 0) → ((n : ℕ) → all (divide_from n xs 0) ≡ 0 + (length xs - n))
        → all (divided n g (x ∷ xs) (divide_from zero xs (suc g)) (λ n. divide_from n xs 0)) ≡ g + (length (x ∷ xs) - 0)
    go zero l h ih = omega arith
    go (suc n) l h ih = omega (arith, ih n, length-take-le n xs (le_of_suc-le-suc l))

pub all_bytes : (xs : List ℕ) → lengths_and_gaps (as_run (divide xs 0)) ≡ length xs
unfolding divide
all_bytes xs = omega (arith, from_bytes 0 xs 0)
