-- What the digits so far say of the whole word. Assumes nothing.
use Prim.Native.Nat.{ℕ, ◌+◌, ◌-◌, ◌*◌, ◌≤◌, ◌<◌}
use mathlib.Core.Path.{◌≡◌, refl, ap, ◌∙◌}
use mathlib.Core.Bool.{Bool, true, false, cond}
use mathlib.Core.List.{List, [], ◌∷◌}
use native.Mathlib.Omega.{arith}
use native.Mathlib.Numerals.{add-one}
use lib.Dec.{leb}
use lib.ListN.{length, get_or, drop, drop_of_length-le}
use lib.Seq.{drop-cons}
use borrow.Author.Tests.{le-leb, lt-leb}
use Rattle.text.specs.Digits.{value_from}
use Rattle.std.specs.Prelude.{Some, None}
use Rattle.argument.specs.Small.{is_digit, all_digits, number_in, small_number}

-- the first digits have come to a value, and the rest decides: whether all are digits, and what they come to
pub record Read (w : List ℕ) (value index : ℕ) : Type 0 where
  pub digits : all_digits w ≡ all_digits (drop index w)
  pub comes : value_from 0 w ≡ value_from value (drop index w)

-- what digits come to is never less than what the first of them came to
grows : (n : ℕ) (xs : List ℕ) → n ≤ value_from n xs
unfolding value_from
grows n [] = omega arith
grows n (x ∷ xs) = let more = grows (n * 10 + (x - 48)) xs in omega arith

module _ (w : List ℕ) where
  pub read_none : Read w 0 0
  read_none = record { digits = refl; comes = refl }

  pub no_digits : length w ≡ 0 → None ≡ small_number w
  no_digits e = go w e
    where
      go : (w : List ℕ) → length w ≡ 0 → None ≡ small_number w
      go [] e = refl
      go (x ∷ xs) e = absurd (omega arith)

  pub some_digits : 0 < length w → number_in w ≡ small_number w
  some_digits l = go w l
    where
      go : (w : List ℕ) → 0 < length w → number_in w ≡ small_number w
      go [] l = absurd (omega arith)
      go (x ∷ xs) l = refl

  module _ (value index : ℕ) (h : Read w value index) where
    -- no digit: below 0, or above 9
    none : index < length w → is_digit (get_or w index 0) ≡ false → None ≡ number_in w
    unfolding number_in all_digits
    none l e =
        let all : all_digits w ≡ false = h.digits ∙ ap all_digits (drop-cons w index 0 l) ∙ rw e in
        rw all

    pub read_below : index < length w → get_or w index 0 < 48 → None ≡ number_in w
    read_below l d = none l (rw (lt-leb 48 (get_or w index 0) d))

    pub read_above : index < length w → 57 < get_or w index 0 → None ≡ number_in w
    read_above l d = none l (rw (le-leb 48 (get_or w index 0) (omega arith), lt-leb (get_or w index 0) 57 d))

    -- too large, whatever follows
    pub read_large : 255 < value → None ≡ number_in w
    unfolding number_in
    read_large l =
        let large : leb (value_from 0 w) 255 ≡ false = lt-leb (value_from 0 w) 255 (omega (arith, h.comes, grows value (drop index w))) in
        go (all_digits w) large
      where
        go : (b : Bool) → leb (value_from 0 w) 255 ≡ false → None ≡ cond b (cond (leb (value_from 0 w) 255) (Some (value_from 0 w)) None) None
        go true e = rw e
        go false e = refl

    pub read_next : index < length w → 48 ≤ get_or w index 0 → get_or w index 0 ≤ 57 → Read w (value * 10 + (get_or w index 0 - 48)) (index + 1)
    unfolding all_digits value_from
    read_next l least most =
        let next = drop-cons w index 0 l in
        let e : is_digit (get_or w index 0) ≡ true = rw (le-leb 48 (get_or w index 0) least, le-leb (get_or w index 0) 57 most) in
        record { digits = rw add-one (h.digits ∙ ap all_digits next ∙ rw e); comes = rw add-one (h.comes ∙ ap (value_from value) next) }

    pub read_all : length w ≤ index → value ≤ 255 → Some value ≡ number_in w
    unfolding number_in all_digits value_from
    read_all l m =
        let none : drop index w ≡ [] = drop_of_length-le w {i = index} l in
        let every : all_digits w ≡ true = h.digits ∙ ap all_digits none in
        let comes : value_from 0 w ≡ value = h.comes ∙ ap (value_from value) none in
        rw (every, comes, le-leb value 255 m)

  -- too large with the next digit
  pub read_next_large : (value index : ℕ) → Read w value index → index < length w → 48 ≤ get_or w index 0 → get_or w index 0 ≤ 57 → 255 < value * 10 + (get_or w index 0 - 48) → None ≡ number_in w
  read_next_large value index h l least most large = read_large _ _ (read_next value index h l least most) large
