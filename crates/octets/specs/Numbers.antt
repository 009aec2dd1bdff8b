-- Numbers in bytes, most significant byte first. Definitions only.
use Rattle.std.specs.Prelude.{ℕ, zero, suc, ◌+◌, ◌*◌, ◌/◌, ◌%◌, ◌<◌, List, [], ◌∷◌, ◌++◌, get_or}
use Rattle.octets.specs.Parts.{part}

-- every element is a byte, as of any slice of bytes
abbrev pub Bytes : List ℕ → Type 0
Bytes s = (i : ℕ) → get_or s i 0 < 256

-- the number that bytes stand for
unfoldable pub number_from : ℕ → List ℕ → ℕ
number_from a [] = a
number_from a (x ∷ xs) = number_from (a * 256 + x) xs

abbrev pub number : List ℕ → ℕ
number xs = number_from 0 xs

-- the k bytes of x
unfoldable pub bytes_of : ℕ → ℕ → List ℕ
bytes_of zero x = []
bytes_of (suc k) x = bytes_of k (x / 256) ++ (x % 256 ∷ [])

-- the number that the k bytes from index `at` on stand for
abbrev pub number_at : ℕ → ℕ → List ℕ → ℕ
number_at at k s = number (part at k s)
