-- Parts of a list of bytes. Definitions only.
use Rattle.std.specs.Prelude.{ℕ, ◌+◌, List, ◌++◌, length, take, drop}

-- the k bytes from index `at` on
abbrev pub part : ℕ → ℕ → List ℕ → List ℕ
part at k s = take k (drop at s)

-- the list with ys in place of as many bytes from index `at` on
abbrev pub put : ℕ → List ℕ → List ℕ → List ℕ
put at ys s = take at s ++ (ys ++ drop (at + length ys) s)

-- ys written over the front of the list; what stands behind them stays
abbrev pub over : List ℕ → List ℕ → List ℕ
over ys s = ys ++ drop (length ys) s
