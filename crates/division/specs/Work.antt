-- The bytes that are run through the checksum to divide a stream. Definitions only.
use Rattle.std.specs.Prelude.{ℕ, zero, suc, ◌+◌, List, [], ◌∷◌, length, drop}
use Rattle.front.specs.Look.{tested}
use Rattle.division.specs.Division.{Division, last, part, divide}

-- for the first k positions of a list, each by the bytes from it on
unfoldable pub tested_in : ℕ → List ℕ → ℕ
tested_in zero xs = 0
tested_in (suc k) [] = 0
tested_in (suc k) (x ∷ xs) = tested (x ∷ xs) + tested_in k xs

-- for a division of the list: the positions that no given message covers are the gap bytes and each message's first byte
unfoldable pub work_in : Division → List ℕ → ℕ
work_in (last g) xs = tested_in g xs
work_in (part g m d) xs = tested_in (suc g) xs + work_in d (drop (g + length m) xs)

-- for a stream
unfoldable pub work_of : List ℕ → ℕ
work_of xs = work_in (divide xs 0) xs
