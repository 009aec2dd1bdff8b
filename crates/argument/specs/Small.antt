-- A number from 0 to 255 in decimal digits. Definitions only.
use Rattle.std.specs.Prelude.{ℕ, Bool, true, false, cond, Option, None, Some, List, [], ◌∷◌, leb}
use Rattle.text.specs.Digits.{value_from}

-- 0 to 9, in ASCII
abbrev pub is_digit : ℕ → Bool
is_digit x = cond (leb 48 x) (leb x 57) false

unfoldable pub all_digits : List ℕ → Bool
all_digits [] = true
all_digits (x ∷ xs) = cond (is_digit x) (all_digits xs) false

-- digits and nothing else, of a number that is small enough
unfoldable pub number_in : List ℕ → Option ℕ
number_in w = cond (all_digits w) (cond (leb (value_from 0 w) 255) (Some (value_from 0 w)) None) None

-- at least one of them
abbrev pub small_number : List ℕ → Option ℕ
small_number [] = None
small_number (x ∷ xs) = number_in (x ∷ xs)
