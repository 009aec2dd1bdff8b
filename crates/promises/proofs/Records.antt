-- E4: a record that is read is written as the same bytes, and one that is written is read as the same record; the rolls of an ADR are the whole number
-- nearest to the exact fraction, halves away from zero, and no other is. Assumes nothing.
use Rattle.std.specs.Prelude.{Ok, Err, Result}
use Prim.Native.Nat.{ℕ, ◌*◌, ◌^◌, ◌≤◌}
use mathlib.Core.Path.{◌≡◌, refl, sym, ap, ◌∙◌, subst}
use mathlib.Core.Bool.{Bool, true, false, cond}
use mathlib.Core.List.{List}
use native.Mathlib.Omega.{arith}
use lib.Dec.{eqb}
use lib.IntN.{ℤ, pos, ◌-ℤ◌, ◌*ℤ◌}
use lib.ListN.{length, take, drop}
use lib.Seq.{take_at}
use borrow.Author.Differences.{ints}
use borrow.Author.Tests.{eq-eqb, le-leb}
use Rattle.octets.specs.Numbers.{Bytes}
use Rattle.octets.specs.Parts.{over}
use Rattle.bits.specs.Joined.{joined}
use Rattle.bits.proofs.Bytes.{length_little_bytes}
use Rattle.refusal.specs.declared.Refusal.TheVariants.{OtherLength, OtherSignal}
use Rattle.novatel.specs.declared.Corrected.{Corrected}
use Rattle.refusal.specs.declared.Refusal.{Refusal}
use Rattle.novatel.specs.declared.Record.{Record}
use Rattle.novatel.specs.Record.{record_of, record_bytes, fields_of, fits}
use Rattle.novatel.specs.Entries.{reading_of, writing_of, writing_bytes, says_gps, correction_in, correction_of}
use Rattle.novatel.specs.Rolls.{numerator, denominator, rolls_of, corrected_of}
use Rattle.promises.specs.Record.{Holds, NearestAway, upper, lower}
use Rattle.promises.proofs.NearestAway.{nearest_is, nearest_only}
use Rattle.promises.proofs.RecordBack.{holding, read_holds, read_written, written_read}

-- ---- there and back
length_record : (r : Record) → length (record_bytes r) ≡ 24
unfolding record_bytes
length_record r = length_little_bytes 24 (joined (fields_of r))

accepted : (r : Record) (out : List ℕ) → fits r ≡ true → 24 ≤ length out → (writing_of r out ≡ Ok 24) × (writing_bytes r out ≡ over (record_bytes r) out)
unfolding writing_of writing_bytes
accepted r out f l = let k = le-leb 24 (length out) l in (rw (f, k), rw (f, k))

read_as : (s : List ℕ) → length s ≡ 24 → reading_of s ≡ Ok (record_of s)
unfolding reading_of
read_as s e = rw (eq-eqb (length s) 24 e)

pub record_read_write : (s out : List ℕ) → Bytes s → length s ≡ 24 → 24 ≤ length out → (r : Record) × (reading_of s ≡ Ok r) × (writing_of r out ≡ Ok 24) × (writing_bytes r out ≡ over s out)
record_read_write s out h e l =
    let r = record_of s in
    let w = accepted r out (holding r (read_holds s)) l in
    (r, read_as s e, w.0, w.1 ∙ ap (λ b. over b out) (read_written s h e))

pub record_write_read : (r : Record) (out : List ℕ) → Holds r → 24 ≤ length out → (writing_of r out ≡ Ok 24) × (reading_of (take 24 (writing_bytes r out)) ≡ Ok r)
record_write_read r out h l =
    let b = record_bytes r in
    let w = accepted r out (holding r h) l in
    let front : take 24 (writing_bytes r out) ≡ b = ap (take 24) w.1 ∙ take_at b (drop (length b) out) 24 (length_record r) in
    (w.0, ap reading_of front ∙ read_as b (length_record r) ∙ ap Ok (written_read r h))

-- ---- the rolls
pub rolls_nearest : (p : ℕ) (a : ℤ) → NearestAway (numerator p a) denominator (rolls_of p a)
unfolding rolls_of
rolls_nearest p a = nearest_is (numerator p a) denominator (omega arith)

pub rolls_only : (p : ℕ) (a k : ℤ) → NearestAway (numerator p a) denominator k → rolls_of p a ≡ k
unfolding rolls_of
rolls_only p a k n = nearest_only (numerator p a) denominator k (omega arith) n

-- what correcting answers, of every record that it does not refuse
pub corrected_exactly : (s : List ℕ) (k c : ℤ) → correction_of s ≡ Ok (record { rolls = k; adr = c })
    → NearestAway (numerator (record_of s).range (record_of s).adr) denominator k × (c ≡ (record_of s).adr -ℤ pos (2 ^ 31) *ℤ k)
unfolding correction_of correction_in corrected_of
corrected_exactly s k c e = go (eqb (length s) 24) (says_gps (record_of s).status) e
  where
    p : ℕ
    p = (record_of s).range

    a : ℤ
    a = (record_of s).adr

    it : Corrected
    it = record { rolls = rolls_of p a; adr = corrected_of p a }

    go : (t u : Bool) → cond {A = Result Corrected Refusal} t (cond u (Ok it) (Err OtherSignal)) (Err OtherLength) ≡ Ok (record { rolls = k; adr = c })
        → NearestAway (numerator p a) denominator k × (c ≡ a -ℤ pos (2 ^ 31) *ℤ k)
    go true true q =
        let asked : Corrected = record { rolls = k; adr = c } in
        let same : it ≡ asked = cc in
        let rolls : rolls_of p a ≡ k = ap (λ r. r.rolls) same in
        let less-rolls : corrected_of p a ≡ c = ap (λ r. r.adr) same in
        (subst (NearestAway (numerator p a) denominator) rolls (rolls_nearest p a), sym less-rolls ∙ ap (λ (y : ℤ). a -ℤ pos (2 ^ 31) *ℤ y) rolls)
    go true false q = absurd (let z : ◌≡◌ {A = ℕ} 0 1 = cc in omega arith)
    go false u q = absurd (let z : ◌≡◌ {A = ℕ} 0 1 = cc in omega arith)

-- ---- the request's fraction is 003's, with 128 taken out above and below
pub as_published : (p : ℕ) (a : ℤ) → (upper p a ≡ pos 128 *ℤ numerator p a) × (lower ≡ 128 * denominator)
as_published p a = (omega (arith, ints), refl)
