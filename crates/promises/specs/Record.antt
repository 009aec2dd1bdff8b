-- E4 as the request and 003 word it: what the fields of a record hold, when its status says GPS L1 C/A, and how often its ADR has rolled over. Definitions only.
use Rattle.std.specs.Prelude.{ℕ, suc, ◌-◌, ◌*◌, ◌/◌, ◌%◌, ◌^◌, ◌≤◌, ◌<◌, ◌≡◌, ℤ, pos, negsuc, nat_abs, ◌+ℤ◌, ◌-ℤ◌, ◌*ℤ◌}
use Rattle.novatel.specs.declared.Record.{Record}

-- ---- what a field holds

-- a field of w bits in two's complement: from -2 ^ (w - 1) up to 2 ^ (w - 1) - 1
abbrev pub Signed : ℕ → ℤ → Type 0
Signed w (pos n) = n < 2 ^ (w - 1)
Signed w (negsuc n) = suc n ≤ 2 ^ (w - 1)

pub record Holds (r : Record) : Type 0 where
  pub status : r.status < 2 ^ 32
  pub doppler : Signed 28 r.doppler
  pub range : r.range < 2 ^ 36
  pub adr : Signed 32 r.adr
  pub range_deviation : r.range_deviation < 2 ^ 4
  pub adr_deviation : r.adr_deviation < 2 ^ 4
  pub prn : r.prn < 2 ^ 8
  pub lock : r.lock < 2 ^ 21
  pub cn0_least : 20 ≤ r.cn0
  pub cn0_most : r.cn0 ≤ 51
  pub reserved : r.reserved < 2 ^ 22

-- the tracking status says GPS L1 C/A: its system, bits 16 to 18, and its signal, bits 21 to 25, are both 0
abbrev pub OfGps : ℕ → Type 0
OfGps status = (status / 2 ^ 16 % 2 ^ 3 ≡ 0) × (status / 2 ^ 21 % 2 ^ 5 ≡ 0)

-- ---- the rolls

-- k is the whole number nearest to n / d: no further from it than one half, and at one half the one further from zero
pub record NearestAway (n : ℤ) (d : ℕ) (k : ℤ) : Type 0 where
  pub close : nat_abs (n -ℤ k *ℤ pos d) * 2 ≤ d
  pub away : nat_abs (n -ℤ k *ℤ pos d) * 2 ≡ d → nat_abs n < nat_abs (k *ℤ pos d)

-- 003: "WAVELENGTH = 0.1902936727984 for L1", in 10 ^ -13 m, and "MAX_VALUE = 8388608"
abbrev pub wavelength : ℕ
wavelength = 1902936727984

abbrev pub most : ℕ
most = 8388608

-- 003: "ADR_ROLLS = (RANGECMP_PSR / WAVELENGTH + RANGECMP_ADR) / MAX_VALUE", with the range p in 1/128 m and the ADR a in 1/256 cycle, as one
-- fraction: p * 10 ^ 13 / (128 * wavelength) + a / 256, and that over the most
abbrev pub upper : ℕ → ℤ → ℤ
upper p a = pos (p * 10 ^ 13 * 256) +ℤ pos (128 * wavelength) *ℤ a

abbrev pub lower : ℕ
lower = 128 * wavelength * 256 * most
