-- `novatel::corrected_adr` meets its contract. Assumes nothing.
use mathlib.Core.Path.{ap, ◌∙◌}
use lib.IntN.{ℤ}
use mir.Syntax.{w64}
use mir.ValLaws.{to_z-of_z}
use Rattle.octets.specs.Signed.{half}
use Rattle.octets.proofs.Signed.{signed_fits}
use Rattle.bits.proofs.Fields.{field_fits}
use Rattle.novatel.specs.declared.Corrected.{Corrected}
use Rattle.novatel.specs.Rolls.{rolls_of, corrected_of}
use Rattle.novatel.proofs.EntrySteps.{correct_size, correct_system, correct_signal, correct_first}
use Rattle.novatel.proofs.corrected_adr.Goals as goal

pub returns-then-bytes-ne24 : goal.returns-then-bytes-ne24
returns-then-bytes-ne24 c = correct_size c.args.bytes.now c.if-bytes-ne24.true

pub returns-then-read-ne0 : goal.returns-then-read-ne0
returns-then-read-ne0 c = correct_system c.args.bytes.now c.if-bytes-ne24.false c.read.result c.read.ensures c.if-read-ne0.true

pub returns-then-read-ne0-2 : goal.returns-then-read-ne0-2
returns-then-read-ne0-2 c = correct_signal c.args.bytes.now c.if-bytes-ne24.false c.read.result c.read-2.result c.read.ensures c.if-read-ne0.false c.read-2.ensures c.if-read-ne0-2.true

pub invariant_of-less_rolls : goal.invariant_of-less_rolls
invariant_of-less_rolls c =
    let s = c.args.bytes.now in
    let e = to_z-of_z w64 c.read_signed-adr.result (record { sfits = c.read_signed-adr.type_inv }) ∙ c.read_signed-adr.ensures in
    record { range_fits = rw c.read-range.ensures (field_fits 60 36 s); adr_fits = rw e (signed_fits (half 32) _ (field_fits 96 32 s)) }

pub returns : goal.returns
returns c =
    let adr = c.read_signed-adr in
    let range = c.read-range in
    let signal = c in
    let system = signal in
    let s = system.args.bytes.now in
    let z = to_z-of_z w64 adr.result (record { sfits = adr.type_inv }) in
    correct_first s system.if-bytes-ne24.false system.read.result signal.read-2.result system.read.ensures signal.if-read-ne0.false signal.read-2.ensures c.if-read-ne0-2.false
    range.result adr.result c.less_rolls.result range.ensures adr.ensures
    (c.less_rolls.ensures ∙ ap (λ (y : ℤ). let both : Corrected = record { rolls = rolls_of range.result y; adr = corrected_of range.result y } in both) z)
