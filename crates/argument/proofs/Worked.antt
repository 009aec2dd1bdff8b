-- Words worked out: what is a number from 0 to 255, and what is none. Assumes nothing.
use mathlib.Core.Path.{◌≡◌, refl}
use Rattle.text.specs.Word.{word}
use Rattle.text.specs.Digits.{value_from}
use Rattle.std.specs.Prelude.{Some, None}
use Rattle.argument.specs.Small.{all_digits, number_in, small_number}

pub record Worked : Type 0 where
  pub least : small_number (word "0") ≡ Some 0
  pub most : small_number (word "255") ≡ Some 255
  pub every_digit : small_number (word "189") ≡ Some 189
  pub zeros_in_front : small_number (word "007") ≡ Some 7
  pub too_large : small_number (word "256") ≡ None
  pub far_too_large : small_number (word "18446744073709551616") ≡ None
  pub nothing : small_number (word "") ≡ None
  -- the bytes beside the digits in ASCII
  pub below : small_number (word "/") ≡ None
  pub above : small_number (word ":") ≡ None
  pub behind : small_number (word "1x") ≡ None

pub worked : Worked
unfolding number_in all_digits value_from
worked =
    record { least = refl; most = refl; every_digit = refl; zeros_in_front = refl; too_large = refl; far_too_large = refl; nothing = refl; below = refl; above = refl; behind = refl }
