-- A double, by the bits of IEEE 754, with three decimals. Definitions only.
use Rattle.std.specs.Prelude.{ℕ, ◌+◌, ◌*◌, ◌/◌, ◌%◌, ◌^◌, cond, List, ltb, leb, eqb}
use Rattle.text.specs.Word.{word}
use Rattle.text.specs.Digits.{fixed}

-- the eleven bits under the sign, and the 52 under them
abbrev pub exponent_of : ℕ → ℕ
exponent_of bits = bits / 2 ^ 52 % 2 ^ 11

abbrev pub fraction_of : ℕ → ℕ
fraction_of bits = bits % 2 ^ 52

-- the size of a finite double, times 2 ^ 1075: an exponent of 0 means that of 1, with no leading 1
abbrev pub size_of : ℕ → ℕ
size_of bits = cond (eqb (exponent_of bits) 0) (fraction_of bits * 2) ((2 ^ 52 + fraction_of bits) * 2 ^ exponent_of bits)

-- the whole number nearest to a / b, halves up
abbrev pub nearest : ℕ → ℕ → ℕ
nearest a b = (a * 2 + b) / (b * 2)

-- the size in thousandths, rounded once
abbrev pub thousandths : ℕ → ℕ
thousandths bits = nearest (size_of bits * 1000) (2 ^ 1075)

-- the words for a double that is not finite, and for one of 2 ^ 53 or more, which does not tell one cycle from the next
abbrev pub nonfinite : List ℕ
nonfinite = word "nonfinite"

abbrev pub wide : List ℕ
wide = word "wide"

-- a phase in cycles; halves are rounded away from zero, since the sign stands apart
abbrev pub cycles : ℕ → List ℕ
cycles bits = cond (eqb (exponent_of bits) 2047) nonfinite (cond (ltb 1075 (exponent_of bits)) wide (fixed (leb (2 ^ 63) bits) 1000 3 (thousandths bits)))
