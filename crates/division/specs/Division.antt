-- The division of a stream into gap bytes and given messages. Definitions only.
use Rattle.std.specs.Prelude.{ℕ, zero, suc, List, [], ◌∷◌, take}
use Rattle.front.specs.Look.{Look, unsettled, gap, message, look}

-- gap bytes and a message, again and again, and at last the gap bytes that are left
pub data Division : Type 0 where
  last : ℕ → Division
  part : ℕ → List ℕ → Division → Division

-- the length of the valid message that stands at the front of a list with nothing behind it, or 0: what is unsettled there is cut short, so gap
unfoldable pub length_of : Look → ℕ
length_of unsettled = 0
length_of gap = 0
length_of (message n) = n

unfoldable pub stands : List ℕ → ℕ
stands xs = length_of (look xs)

-- at a position: a message is given, and the next position is past it; or the byte is gap, and the next position is one on
unfoldable pub divided : ℕ → ℕ → List ℕ → Division → (ℕ → Division) → Division
divided zero g xs skip past = skip
divided (suc n) g xs skip past = part g (take (suc n) xs) (past n)

-- of a list whose first `covered` bytes are in a message already given, after g gap bytes
unfoldable pub divide_from : ℕ → List ℕ → ℕ → Division
divide_from covered [] g = last g
divide_from (suc c) (x ∷ xs) g = divide_from c xs g
divide_from zero (x ∷ xs) g = let skip = divide_from zero xs (suc g) in divided (stands (x ∷ xs)) g (x ∷ xs) skip (λ n. divide_from n xs 0)

-- of a stream of which g gap bytes stand before
unfoldable pub divide : List ℕ → ℕ → Division
divide xs g = divide_from 0 xs g
