-- The text of `why` has room in the buffer that the program puts it into: no line takes more than 20 bytes. Assumes nothing.
use Rattle.std.specs.Prelude.{Result, Ok, Err}
use Prim.Native.Nat.{ℕ, zero, suc, ◌+◌, ◌-◌, ◌*◌, ◌^◌, ◌≤◌, ◌<◌}
use mathlib.Core.Path.{◌≡◌, refl}
use mathlib.Core.Bool.{Bool, true, false, cond}
use mathlib.Core.List.{List, [], ◌∷◌, ◌++◌}
use native.Mathlib.Omega.{arith}
use lib.ListN.{length, drop, length-append, length-drop}
use lib.Dec.{ltb, leb, eqb}
use borrow.Author.Tests.{ltb-true, ltb-false}
use Rattle.octets.specs.Begins.{common}
use Rattle.octets.proofs.Begins.{common_within}
use Rattle.refusal.specs.declared.Refusal.TheVariants.{PastEnd}
use Rattle.refusal.specs.Numbers.{number_of}
use Rattle.refusal.proofs.Numbered.{two_digits}
use Rattle.text.specs.Word.{word}
use Rattle.text.specs.Digits.{digits, needed, decimal}
use Rattle.text.specs.Columns.{space, newline, number_text, count_text}
use Rattle.text.proofs.Spelling.{length_digits, needed_last, needed_more, tenth_fits}
use Rattle.macm.specs.Form.{new_sync, old_sync}
use Rattle.front.specs.declared.Claim.{Claim}
use Rattle.front.specs.declared.Claim.TheVariants.{Nothing, AtLeast, Long}
use Rattle.front.specs.Claim.{claim}
use Rattle.front.proofs.Bounds.{ClaimFact, claim_fact}
use Rattle.reason.specs.declared.Reason.{Reason}
use Rattle.reason.specs.declared.Reason.TheVariants.{Inside, Given, Sync, CutUnknown, CutShort, Checksum}
use Rattle.reason.specs.Reason.{residue_of, summed, said_by, here_of, cover_of, reason_of}
use Rattle.reason.proofs.HereSteps.{here_some}
use Rattle.account.specs.Account.{said_text, reason_text, lines_of, account_text, report_text}
use Rattle.refusal.specs.declared.Refusal.{Refusal}

-- ---- numbers of five digits
needed_within : (k j n : ℕ) → n < 10 ^ suc j → needed k n ≤ suc j
unfolding needed
needed_within zero j n l = omega arith
needed_within (suc k) j n l = go (ltb n 10) refl j l (needed_within k)
  where
    go : (b : Bool) → ltb n 10 ≡ b → (j : ℕ) → n < 10 ^ suc j → ((j n : ℕ) → n < 10 ^ suc j → needed k n ≤ suc j) → needed (suc k) n ≤ suc j
    go true e j l ih = omega (arith, needed_last k n (ltb-true n 10 e))
    go false e zero l ih = absurd (let m = ltb-false n 10 e in omega arith)
    go false e (suc j) l ih = omega (arith, needed_more k n (ltb-false n 10 e), ih j _ (tenth_fits (suc j) n l))

number_within : (n b : ℕ) → n < 100000 → length (number_text n b) ≤ 6
number_within n b l = omega (arith, length-append (decimal n) (b ∷ []), length_digits 10 (needed 20 n) n, needed_within 20 4 n l)

count_within : (w : List ℕ) (n b : ℕ) → n < 100000 → length (count_text w n b) ≤ length w + 6
count_within w n b l = omega (arith, length-append w (number_text n b), number_within n b l)

-- ---- a line
abbrev Small : Result Reason Refusal → Type 0
Small (Err r) = Unit
Small (Ok (Inside q)) = q < 100000
Small (Ok (Given n)) = n < 100000
Small (Ok (Sync k)) = k < 100000
Small (Ok CutUnknown) = Unit
Small (Ok (CutShort n)) = n < 100000
Small (Ok (Checksum residue)) = Unit

said_within : (r : Result Reason Refusal) → Small r → length (said_text r) ≤ 14
said_within (Err r) h = count_within (word "refused ") (number_of r) newline (omega (arith, two_digits r))
said_within (Ok (Inside q)) h = omega (arith, count_within (word "inside ") q newline h)
said_within (Ok (Given n)) h = omega (arith, count_within (word "given ") n newline h)
said_within (Ok (Sync k)) h = omega (arith, count_within (word "sync ") k newline h)
said_within (Ok CutUnknown) h = omega arith
said_within (Ok (CutShort n)) h = omega (arith, count_within (word "short ") n newline h)
said_within (Ok (Checksum t)) h = omega (arith, length-append (word "checksum ") (digits 16 2 t ++ (newline ∷ [])), length-append (digits 16 2 t) (newline ∷ []), length_digits 16 2 t)

line_within : (p : ℕ) (r : Result Reason Refusal) → p < 100000 → Small r → length (reason_text p r) ≤ 20
line_within p r l h = omega (arith, length-append (number_text p space) (said_text r), number_within p space l, said_within r h)

-- ---- all lines
lines_within : (f : ℕ → Result Reason Refusal) (k : ℕ) → ((p : ℕ) → p < k → length (reason_text p (f p)) ≤ 20) → length (lines_of f 0 k) ≤ 20 * k
unfolding lines_of
lines_within f zero h = omega arith
lines_within f (suc k) h =
    let z : 0 + k ≡ k = omega arith in
    rw z (omega (arith, length-append (lines_of f 0 k) (reason_text k (f k)), lines_within f k (λ p l. h p (omega arith)), h k (omega arith)))

said_small : (xs : List ℕ) (c : Claim) → ClaimFact xs c → Small (Ok (said_by c xs))
unfolding said_by summed
said_small xs Nothing h = go (ltb (common new_sync xs) (common old_sync xs))
  where
    go : (b : Bool) → suc (cond b (common old_sync xs) (common new_sync xs)) < 100000
    go true = omega (arith, (common_within old_sync xs).0)
    go false = omega (arith, (common_within new_sync xs).0)
said_small xs (AtLeast k) h = tt
said_small xs (Long n) h = go (leb n (length xs)) (eqb (residue_of n xs) 0)
  where
    go : (a b : Bool) → Small (Ok (cond a (cond b (Given n) (Checksum (residue_of n xs))) (CutShort (n - length xs))))
    go true true = omega (arith, h.1)
    go true false = tt
    go false b = omega (arith, h.1)

reason_small : (s : List ℕ) (p : ℕ) → p < length s → p < 100000 → Small (reason_of s p)
unfolding reason_of
reason_small s p l m = go (ltb p (length s)) (ltb (cover_of s p) p) refl
  where
    go : (a b : Bool) → ltb (cover_of s p) p ≡ b → Small (cond a (cond b (Ok (Inside (cover_of s p))) (here_of (drop p s))) (Err PastEnd))
    go true true e = omega (arith, ltb-true (cover_of s p) p e)
    go true false e = rw (here_some (drop p s) (λ z. omega (arith, length-drop p s))) (said_small (drop p s) (claim (drop p s)) (claim_fact (drop p s)))
    go false b e = tt

-- the buffer of `report::reasons` has so many bytes
pub the_report_has_room : (s : List ℕ) → length (report_text s) ≤ 1228816
the_report_has_room s = go (ltb 61440 (length s)) refl
  where
    go : (b : Bool) → ltb 61440 (length s) ≡ b → length (cond b (word "longer than 61440 bytes\n") (word "at reason value\n" ++ account_text s)) ≤ 1228816
    go true e = omega arith
    go false e =
        let l = ltb-false 61440 (length s) e in
        omega (arith, length-append (word "at reason value\n") (account_text s), lines_within (reason_of s) (length s) (λ p k. line_within p (reason_of s p) (omega arith) (reason_small s p k (omega arith))))
