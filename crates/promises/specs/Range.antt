-- A range as 264-21 words it, and by the factor as it is printed there. Definitions only.
use Rattle.std.specs.Prelude.{ℕ, ◌+◌, ◌-◌, ◌*◌, ◌/◌, ◌^◌, ◌≤◌, ◌<◌, ◌⊎◌}
use Rattle.track.specs.Range.{range_of}

-- "The speed of light used is 2.99792458×10^8 m/sec."
abbrev pub light : ℕ
light = 299792458

-- PR is in seconds, "scaled by a multiplication factor of 3.0×10^10"
abbrev pub scale : ℕ
scale = 3 * 10 ^ 10

-- r is the whole number nearest to n / d, and of two that are as near the higher one: r - 1/2 ≤ n / d < r + 1/2, with 2 * d multiplied out
pub record Nearest (r n d : ℕ) : Type 0 where
  pub none_lower : 2 * r * d ≤ 2 * n + d
  pub none_higher : 2 * n < 2 * r * d + d

-- ---- the printed factor, by which ranges went before E2

-- in micrometres: "0.999308193 × 10^-2" m for each count
abbrev pub printed_of : ℕ → ℕ
printed_of pseudorange = (pseudorange * 999308193 + 50000) / 100000

-- low by one part in 2997924580, which is 3.3 in 10 ^ 10, but for less than a micrometre of rounding
pub record Low (pseudorange : ℕ) : Type 0 where
  pub never_high : printed_of pseudorange ≤ range_of pseudorange
  pub no_less : range_of pseudorange < (range_of pseudorange - printed_of pseudorange) * 2997924580 + 2997924580
  pub no_more : (range_of pseudorange - printed_of pseudorange) * 2997924580 < range_of pseudorange + 2997924580

-- where a range may be one of both factors: below 3 km, and within 3 km of 29,958.5 km, where they differ by a whole count
abbrev pub Doubtful : ℕ → Type 0
Doubtful pseudorange = (pseudorange < 300000) ⊎ ((2997924579 < pseudorange + 300000) × (pseudorange < 2997924579 + 300000))
