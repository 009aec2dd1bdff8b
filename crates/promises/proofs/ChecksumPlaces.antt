-- Of bytes the checksum is a byte; and a number that goes into one place goes into it, whichever place that is. Assumes nothing.
use Prim.Native.Nat.{ℕ, zero, suc, ◌<◌}
use mathlib.Core.Path.{◌≡◌, sym, ap, ◌∙◌}
use mathlib.Core.List.{List, [], ◌∷◌}
use native.Mathlib.Omega.{arith}
use lib.Bits.{bit_xor, xor_comm, xor_lt}
use lib.ListN.{length, set, get_or}
use Rattle.octets.specs.Checksum.{checksum_from, checksum_of}
use Rattle.octets.specs.Numbers.{Bytes}
use Rattle.octets.proofs.ExclusiveOr.{xor_assoc, checksum_cons}

pub checksum_byte : (xs : List ℕ) → Bytes xs → checksum_of xs < 256
unfolding checksum_from
checksum_byte [] h = omega arith
checksum_byte (x ∷ xs) h = rw checksum_cons (xor_lt 8 x (checksum_of xs) (h 0) (checksum_byte xs (λ i. h (suc i))))

pub checksum_fold : (xs : List ℕ) (i y : ℕ) → i < length xs → checksum_of (set xs i (bit_xor (get_or xs i 0) y)) ≡ bit_xor (checksum_of xs) y
checksum_fold [] i y l = absurd (omega arith)
checksum_fold (x ∷ xs) zero y l =
    checksum_cons (bit_xor x y) xs ∙ xor_assoc x y (checksum_of xs) ∙ ap (bit_xor x) (xor_comm y (checksum_of xs)) ∙ sym (xor_assoc x (checksum_of xs) y) ∙ ap (λ z. bit_xor z y) (sym (checksum_cons x xs))
checksum_fold (x ∷ xs) (suc i) y l =
    checksum_cons x (set xs i (bit_xor (get_or xs i 0) y)) ∙ ap (bit_xor x) (checksum_fold xs i y (omega arith)) ∙ sym (xor_assoc x (checksum_of xs) y) ∙ ap (λ z. bit_xor z y) (sym (checksum_cons x xs))
