-- How often the ADR has rolled over, exactly. Definitions only.
use Rattle.std.specs.Prelude.{ℕ, suc, ◌+◌, ◌*◌, ◌/◌, ◌^◌, ℤ, pos, negsuc, neg_ℤ, ◌+ℤ◌, ◌-ℤ◌, ◌*ℤ◌}

-- L1's wavelength, 0.1902936727984 m, in 10^-13 m
abbrev pub wavelength : ℕ
wavelength = 1902936727984

-- the range in cycles and the ADR, over 2^23 cycles: with the range p in 1/128 m and the ADR a in 1/256 cycle that is
-- (2 * 10^13 * p + wavelength * a) / (2^31 * wavelength)
abbrev pub numerator : ℕ → ℤ → ℤ
numerator p a = pos (20000000000000 * p) +ℤ pos wavelength *ℤ a

abbrev pub denominator : ℕ
denominator = 2 ^ 31 * wavelength

-- the whole number nearest to n / d, halves away from zero
abbrev pub nearest : ℤ → ℕ → ℤ
nearest (pos n) d = pos ((n * 2 + d) / (d * 2))
nearest (negsuc n) d = neg_ℤ (pos ((suc n * 2 + d) / (d * 2)))

unfoldable pub rolls_of : ℕ → ℤ → ℤ
rolls_of p a = nearest (numerator p a) denominator

-- the ADR less its rolls
unfoldable pub corrected_of : ℕ → ℤ → ℤ
corrected_of p a = a -ℤ pos (2 ^ 31) *ℤ rolls_of p a
