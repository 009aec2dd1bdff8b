-- A record whose fields hold their numbers is one that fits; what is read fits and is written as the same bytes, and what is written is read as the same
-- record. Assumes nothing.
use Prim.Native.Nat.{ℕ, ◌+◌, ◌-◌, ◌^◌, ◌<◌}
use mathlib.Core.Path.{◌≡◌, refl, ap, ap₂, ◌∙◌}
use mathlib.Core.Bool.{true}
use mathlib.Core.List.{List, [], ◌∷◌}
use native.Mathlib.Omega.{arith}
use lib.IntN.{ℤ, pos, negsuc}
use lib.ListN.{length, take, drop}
use lib.Signed.{mag}
use borrow.Author.Tests.{lt-ltb, le-leb, ltb-true, leb-true}
use Rattle.octets.specs.Numbers.{Bytes}
use Rattle.octets.specs.Signed.{signed_of, raw_of, half}
use Rattle.octets.proofs.Signed.{raw_signed, signed_raw, signed_fits, raw_fits}
use Rattle.bits.specs.Little.{little_bytes}
use Rattle.bits.specs.Fields.{field_of}
use Rattle.bits.specs.Joined.{◌bits◌, joined}
use Rattle.bits.proofs.Fields.{field_fits}
use Rattle.bits.proofs.Joined.{widths, total, parts, parts_bytes, field_joined}
use Rattle.novatel.specs.declared.Record.{Record}
use Rattle.novatel.specs.Record.{record_of, record_bytes, fields_of, tests, fits}
use Rattle.novatel.proofs.WriteSteps.{each}
use Rattle.promises.specs.Record.{Signed, Holds}

-- ---- what the fields hold
within : (w : ℕ) (z : ℤ) → mag z < half w → Signed w z
within w (pos n) l = l
within w (negsuc n) l = l

without : (w : ℕ) (z : ℤ) → Signed w z → mag z < half w
without w (pos n) l = l
without w (negsuc n) l = l

pub fitting : (r : Record) → fits r ≡ true → Holds r
unfolding fits
fitting r e =
    let held = each (tests r) e in
    record {
      status = ltb-true r.status (2 ^ 32) (held 0);
      doppler = within 28 r.doppler (ltb-true (mag r.doppler) (half 28) (held 1));
      range = ltb-true r.range (2 ^ 36) (held 2);
      adr = within 32 r.adr (ltb-true (mag r.adr) (half 32) (held 3));
      range_deviation = ltb-true r.range_deviation (2 ^ 4) (held 4);
      adr_deviation = ltb-true r.adr_deviation (2 ^ 4) (held 5);
      prn = ltb-true r.prn (2 ^ 8) (held 6);
      lock = ltb-true r.lock (2 ^ 21) (held 7);
      cn0_least = leb-true 20 r.cn0 (held 8);
      cn0_most = omega (arith, ltb-true r.cn0 52 (held 9));
      reserved = ltb-true r.reserved (2 ^ 22) (held 10);
    }

pub holding : (r : Record) → Holds r → fits r ≡ true
unfolding fits
holding r h =
    rw (
      lt-ltb r.status (2 ^ 32) h.status,
      lt-ltb (mag r.doppler) (half 28) (without 28 r.doppler h.doppler),
      lt-ltb r.range (2 ^ 36) h.range,
      lt-ltb (mag r.adr) (half 32) (without 32 r.adr h.adr),
      lt-ltb r.range_deviation (2 ^ 4) h.range_deviation,
      lt-ltb r.adr_deviation (2 ^ 4) h.adr_deviation,
      lt-ltb r.prn (2 ^ 8) h.prn,
      lt-ltb r.lock (2 ^ 21) h.lock,
      le-leb 20 r.cn0 h.cn0_least,
      lt-ltb r.cn0 52 (omega (arith, h.cn0_most)),
      lt-ltb r.reserved (2 ^ 22) h.reserved,
    )

-- ---- there and back
layout : List ℕ
layout = 32 ∷ 28 ∷ 36 ∷ 32 ∷ 4 ∷ 4 ∷ 8 ∷ 21 ∷ 5 ∷ 22 ∷ []

-- what was read fits
pub read_holds : (s : List ℕ) → Holds (record_of s)
unfolding record_of
read_holds s =
    record {
      status = field_fits 0 32 s;
      doppler = within 28 (signed_of (half 28) (field_of 32 28 s)) (signed_fits (half 28) (field_of 32 28 s) (field_fits 32 28 s));
      range = field_fits 60 36 s;
      adr = within 32 (signed_of (half 32) (field_of 96 32 s)) (signed_fits (half 32) (field_of 96 32 s) (field_fits 96 32 s));
      range_deviation = field_fits 128 4 s;
      adr_deviation = field_fits 132 4 s;
      prn = field_fits 136 8 s;
      lock = field_fits 144 21 s;
      cn0_least = omega arith;
      cn0_most = omega (arith, field_fits 165 5 s);
      reserved = field_fits 170 22 s;
    }

less_twenty : (n : ℕ) → n + 20 - 20 ≡ n
less_twenty n = omega arith

pub read_written : (s : List ℕ) → Bytes s → length s ≡ 24 → record_bytes (record_of s) ≡ s
unfolding record_bytes fields_of record_of parts field_of layout total
read_written s h e =
    let d = raw_signed (half 28) (field_of 32 28 s) (field_fits 32 28 s) in
    let a = raw_signed (half 32) (field_of 96 32 s) (field_fits 96 32 s) in
    let c = less_twenty (field_of 165 5 s) in
    let f : ℕ → ℕ → ℕ → List ℕ = λ x y z. little_bytes 24 (joined ((32 bits field_of 0 32 s) ∷ (28 bits x) ∷ (36 bits field_of 60 36 s) ∷ (32 bits y) ∷ (4 bits field_of 128 4 s) ∷ (4 bits field_of 132 4 s)
    ∷ (8 bits field_of 136 8 s) ∷ (21 bits field_of 144 21 s) ∷ (5 bits z) ∷ (22 bits field_of 170 22 s) ∷ [])) in
    ap (λ x. f x (raw_of (half 32) (signed_of (half 32) (field_of 96 32 s))) (field_of 165 5 s + 20 - 20)) d
    ∙ ap₂ (λ y z. f (field_of 32 28 s) y z) a c
    ∙ parts_bytes layout s 24 h e refl

pub written_read : (r : Record) → Holds r → record_of (record_bytes r) ≡ r
unfolding record_bytes record_of fields_of widths
written_read r g =
    let doppler-fits = without 28 r.doppler g.doppler in
    let adr-fits = without 32 r.adr g.adr in
    let ps = fields_of r in
    let status = field_joined 24 (take 0 ps) 32 r.status (drop 1 ps) (omega arith) g.status in
    let doppler = field_joined 24 (take 1 ps) 28 (raw_of (half 28) r.doppler) (drop 2 ps) (omega arith) (raw_fits (half 28) r.doppler doppler-fits) in
    let range = field_joined 24 (take 2 ps) 36 r.range (drop 3 ps) (omega arith) g.range in
    let adr = field_joined 24 (take 3 ps) 32 (raw_of (half 32) r.adr) (drop 4 ps) (omega arith) (raw_fits (half 32) r.adr adr-fits) in
    let range_deviation = field_joined 24 (take 4 ps) 4 r.range_deviation (drop 5 ps) (omega arith) g.range_deviation in
    let adr_deviation = field_joined 24 (take 5 ps) 4 r.adr_deviation (drop 6 ps) (omega arith) g.adr_deviation in
    let prn = field_joined 24 (take 6 ps) 8 r.prn (drop 7 ps) (omega arith) g.prn in
    let lock = field_joined 24 (take 7 ps) 21 r.lock (drop 8 ps) (omega arith) g.lock in
    let cn0 = field_joined 24 (take 8 ps) 5 (r.cn0 - 20) (drop 9 ps) (omega arith) (omega (arith, g.cn0_most)) in
    let reserved = field_joined 24 (take 9 ps) 22 r.reserved (drop 10 ps) (omega arith) g.reserved in
    let back : r.cn0 - 20 + 20 ≡ r.cn0 = omega (arith, g.cn0_least) in
    let doppler-is = ap (signed_of (half 28)) doppler ∙ signed_raw (half 28) r.doppler doppler-fits in
    let adr-is = ap (signed_of (half 32)) adr ∙ signed_raw (half 32) r.adr adr-fits in
    let cn0-is = ap (λ n. n + 20) cn0 ∙ back in
    λ i. record {
      status = status i;
      doppler = doppler-is i;
      range = range i;
      adr = adr-is i;
      range_deviation = range_deviation i;
      adr_deviation = adr_deviation i;
      prn = prn i;
      lock = lock i;
      cn0 = cn0-is i;
      reserved = reserved i;
    }
