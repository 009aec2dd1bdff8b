-- How bytes begin, held against a fixed string. Definitions only.
use Rattle.std.specs.Prelude.{ℕ, suc, Bool, true, false, cond, List, [], ◌∷◌, eqb}
use Rattle.octets.specs.declared.Fit.{Fit}
use Rattle.octets.specs.declared.Fit.TheVariants.{Whole, Part, Bad}

-- how many of the first bytes are those of the string
unfoldable pub common : List ℕ → List ℕ → ℕ
common [] s = 0
common (t ∷ ts) [] = 0
common (t ∷ ts) (x ∷ xs) = cond (eqb x t) (suc (common ts xs)) 0

-- with all of the string, with a part of it and nothing more yet, or with a byte that contradicts it
unfoldable pub fit : List ℕ → List ℕ → Fit
fit [] s = Whole
fit (t ∷ ts) [] = Part
fit (t ∷ ts) (x ∷ xs) = cond (eqb x t) (fit ts xs) Bad

abbrev pub is_whole : Fit → Bool
is_whole Whole = true
is_whole Part = false
is_whole Bad = false

abbrev pub begins : List ℕ → List ℕ → Bool
begins t s = is_whole (fit t s)
