-- `novatel::fill` meets its contract: ten fields, each written behind the one before it. Assumes nothing.
use mathlib.Core.Path.{refl}
use Rattle.std.proofs.Common.{◌≡◌, rules, ◌∙◌}
use Rattle.octets.specs.Signed.{raw_of, half}
use Rattle.bits.specs.Fields.{with_field}
use Rattle.bits.proofs.Joined.{written, widths, written_all}
use Rattle.novatel.specs.Record.{record_bytes, fields_of}
use Rattle.novatel.proofs.fill.Goals as goal

pub returns : goal.returns
unfolding record_bytes fields_of written widths
returns c =
    let t = c.args.bytes.now in
    let r = c.args.r in
    let doppler : c.write_signed.new.bytes ≡ with_field 32 28 (raw_of (half 28) r.doppler) c.write.new.bytes = search rules in
    let adr : c.write_signed-2.new.bytes ≡ with_field 96 32 (raw_of (half 32) r.adr) c.write-2.new.bytes = search rules in
    let all : c.write-8.new.bytes ≡ written 0 (fields_of r) t =
    rw (c.write-8.ensures, c.write-7.ensures, c.write-6.ensures, c.write-5.ensures, c.write-4.ensures, c.write-3.ensures, adr, c.write-2.ensures, doppler, c.write.ensures) refl in
    all ∙ written_all _ _ t 24 c.requires.0 refl
