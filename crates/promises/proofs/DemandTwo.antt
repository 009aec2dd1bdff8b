-- Demand 2: what is written is 01's table; the two round trips; and no byte may change. Both forms alike. Assumes nothing.
use Prim.Native.Nat.{ℕ, ◌≤◌, ◌<◌}
use mathlib.Core.Path.{◌≡◌, ap, ◌∙◌}
use mathlib.Core.List.{List, ◌∷◌, ◌++◌, map, append_assoc}
use lib.ListN.{length, get_or, length-map}
use Rattle.octets.specs.Numbers.{Bytes, bytes_of}
use Rattle.macm.specs.declared.Header.{Header}
use Rattle.macm.specs.declared.Observation.{Observation}
use Rattle.macm.specs.Form.{lead, size}
use Rattle.macm.specs.Check.{verdict}
use Rattle.macm.specs.Observation.{observation_bytes}
use Rattle.macm.specs.Read.{head_of}
use Rattle.macm.specs.Answers.{check_number, header_in}
use Rattle.compose.specs.Seal.{sealed}
use Rattle.promises.specs.Joined.{joined}
use Rattle.promises.specs.Fields.{HeaderFits, AllFit}
use Rattle.promises.specs.Again.{made, write, observations_of, ReadsAs}
use Rattle.promises.proofs.Assembled.{assembled}
use Rattle.promises.proofs.Messages.{message_of, write_made}
use Rattle.promises.proofs.ReadWrite.{written_again}
use Rattle.promises.proofs.WriteRead.{read_again}
use Rattle.promises.proofs.OneByte.{changed_refused}

-- an accepted message, read and written again wherever there is room, gives the same bytes; it has no more observations than start can be given
pub read_write : (m out : List ℕ) → Bytes m → check_number (verdict m) ≡ 0 → length m ≤ length out
    → (length (observations_of m) ≤ 255) × (write (header_in (head_of m)) (observations_of m) out ≡ made m)
read_write m out b accepted room = written_again m out b accepted room

-- a header with up to 255 observations, of either form, written where there is room and read, gives the same fields
pub write_read : (h : Header) (os : List Observation) (out : List ℕ) → HeaderFits h → AllFit os → length os ≤ 255 → size h.form (length os) ≤ length out
    → (m : List ℕ) × (write h os out ≡ made m) × ReadsAs h os m
write_read h os out hf af few room = read_again h os out hf af room

-- any one byte of an accepted message changed to another, the length kept: the message check refuses it
pub one_byte : (m changed : List ℕ) (i : ℕ) → check_number (verdict m) ≡ 0
    → length changed ≡ length m → i < length m → (get_or changed i 0 ≡ get_or m i 0 → ⊥) → ((j : ℕ) → (j ≡ i → ⊥) → get_or changed j 0 ≡ get_or m j 0)
    → 0 < check_number (verdict changed)
one_byte m changed i accepted same l other others = changed_refused m changed i accepted same l other others

-- what is written is 01's table: sync string and own fields, N, time, OFFSET, the observations, then the checksum of what stands before it
pub written : (h : Header) (os : List Observation) (out : List ℕ) → size h.form (length os) ≤ length out
    → write h os out ≡ made (sealed (lead h.form ++ (length os ∷ (bytes_of 4 h.time ++ (bytes_of 4 h.offset ++ joined (map observation_bytes os))))))
unfolding message_of assembled
written h os out room =
    let flat = append_assoc (bytes_of 4 h.time) (bytes_of 4 h.offset) (joined (map observation_bytes os)) in
    write_made h os out room ∙ ap (λ n. made (sealed (lead h.form ++ (n ∷ ((bytes_of 4 h.time ++ bytes_of 4 h.offset) ++ joined (map observation_bytes os)))))) (length-map os observation_bytes)
    ∙ ap (λ r. made (sealed (lead h.form ++ (length os ∷ r)))) flat
