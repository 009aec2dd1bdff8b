-- RATE through its four bytes and back, exact at both ends. Assumes nothing.
use Prim.Native.Nat.{ℕ, ◌*◌, ◌^◌, ◌<◌}
use mathlib.Core.Path.{◌≡◌, refl, ap, ◌∙◌}
use mathlib.Core.List.{List, [], ◌∷◌}
use lib.ListN.{length}
use lib.IntN.{ℤ, pos, negsuc}
use lib.Signed.{mag}
use Rattle.octets.specs.Numbers.{Bytes, number, number_from, bytes_of}
use Rattle.octets.specs.Parts.{part}
use Rattle.octets.specs.Signed.{half, signed_of, raw_of}
use Rattle.octets.proofs.Numbers.{number_bytes_of, bytes_of_number, number_fits}
use Rattle.octets.proofs.Signed.{raw_signed, signed_raw, raw_fits}
use Rattle.macm.specs.declared.Observation.{Observation}
use Rattle.macm.specs.Observation.{observation_of, observation_bytes}
use Rattle.track.specs.Rate.{rate_of, rate_bytes, Through}

-- these are the four bytes of an observation from its 17th on, as a message is read and written
pub rate_read : (b : List ℕ) → (observation_of b).rate ≡ rate_of (part 16 4 b)
unfolding observation_of
rate_read b = refl

pub rate_written : (o : Observation) → part 16 4 (observation_bytes o) ≡ rate_bytes o.rate
unfolding observation_bytes bytes_of
rate_written o = refl

-- there and back, from either side
pub rate_back : (z : ℤ) → mag z < 2 ^ 31 → rate_of (rate_bytes z) ≡ z
rate_back z h = ap (signed_of (half 32)) (number_bytes_of 4 (raw_of (half 32) z) (raw_fits (half 32) z h)) ∙ signed_raw (half 32) z h

pub bytes_back : (b : List ℕ) → length b ≡ 4 → Bytes b → rate_bytes (rate_of b) ≡ b
bytes_back b long h =
    let small : number b < half 32 * 2 = rw long at (number_fits b h) in
    ap (bytes_of 4) (raw_signed (half 32) (number b) small) ∙ bytes_of_number b 4 long h

-- ---- the worked ends
pub nought : Through (0x00 ∷ 0x00 ∷ 0x00 ∷ 0x00 ∷ []) (pos 0)
unfolding number_from bytes_of
nought = record { read = refl; written = refl }

pub minus_one : Through (0xFF ∷ 0xFF ∷ 0xFF ∷ 0xFF ∷ []) (negsuc 0)
unfolding number_from bytes_of
minus_one = record { read = refl; written = refl }

pub largest : Through (0x7F ∷ 0xFF ∷ 0xFF ∷ 0xFF ∷ []) (pos 2147483647)
unfolding number_from bytes_of
largest = record { read = refl; written = refl }

pub least : Through (0x80 ∷ 0x00 ∷ 0x00 ∷ 0x00 ∷ []) (negsuc 2147483647)
unfolding number_from bytes_of
least = record { read = refl; written = refl }
