-- RATE as the four bytes of a message, in both directions. Definitions only.
use Rattle.std.specs.Prelude.{ℕ, ◌≡◌, List, ℤ}
use Rattle.octets.specs.Numbers.{number, bytes_of}
use Rattle.octets.specs.Signed.{half, signed_of, raw_of}

abbrev pub rate_of : List ℕ → ℤ
rate_of bytes = signed_of (half 32) (number bytes)

abbrev pub rate_bytes : ℤ → List ℕ
rate_bytes rate = bytes_of 4 (raw_of (half 32) rate)

-- bytes and a rate that are read and written as each other
pub record Through (bytes : List ℕ) (rate : ℤ) : Type 0 where
  pub read : rate_of bytes ≡ rate
  pub written : rate_bytes rate ≡ bytes
