-- Two's complement, once for every width. A field of w bits holds the numbers below 2 ^ w: those below `half` = 2 ^ (w - 1) stand for
-- themselves, the others for themselves less 2 ^ w. Definitions only.
use Rattle.std.specs.Prelude.{ℕ, suc, ◌-◌, ◌*◌, ◌^◌, cond, ltb, ℤ, pos, negsuc}

-- half the numbers of a field of w bits
abbrev pub half : ℕ → ℕ
half w = 2 ^ (w - 1)

-- the number that a field's bits stand for (negsuc n is -(n + 1))
abbrev pub signed_of : ℕ → ℕ → ℤ
signed_of h n = cond (ltb n h) (pos n) (negsuc (h * 2 - suc n))

-- the bits of a number that the field holds
abbrev pub raw_of : ℕ → ℤ → ℕ
raw_of h (pos n) = n
raw_of h (negsuc n) = h * 2 - suc n
