-- `bits::Field::read` meets its contract: what is read so far and what is left above it are the field. Assumes nothing.
use Rattle.std.proofs.Common.{◌+◌, ◌%◌, ◌/◌, arith}
use Rattle.bits.specs.Widths.{width_of}
use Rattle.bits.proofs.Steps.{read_all, read_past, read_fits, read_next}
use Rattle.bits.proofs.Field.read.Goals as goal

pub returns-then-bytes-index : goal.returns-then-bytes-index
returns-then-bytes-index c =
    let l = c.loop-done in
    let a = c.args in
    read_past a.bytes.now a.self.at (width_of a.self) l.value l.done l.invariant.1 (λ i. (c.type_inv.bytes i).fits) (omega (arith, c.if-bytes-index.true))

pub overflow_add-value : goal.overflow_add-value
overflow_add-value c =
    let l = c.loop-done in
    let a = c.args in
    let place = a.self.at % 8 + l.done in
    let e = c.min-count.ensures in
    record {
      fits = read_fits a.bytes.now a.self.at (width_of a.self) l.value l.done l.invariant.1 (a.self.at / 8 + place / 8) (place % 8) c.min-count.result c.read.result
          (λ i. (c.type_inv.bytes i).fits) (omega arith) (omega (arith, e)) (omega (arith, e, c.loop-done-test.true)) c.read.ensures;
    }

pub loop-done-preserved : goal.loop-done-preserved
loop-done-preserved c =
    let l = c.loop-done in
    let a = c.args in
    let place = a.self.at % 8 + l.done in
    let e = c.min-count.ensures in (
      l.invariant.0,
      read_next a.bytes.now a.self.at (width_of a.self) l.value l.done l.invariant.1 (a.self.at / 8 + place / 8) (place % 8) c.min-count.result c.read.result
          (λ i. (c.type_inv.bytes i).fits) (omega arith) (omega (arith, e)) (omega (arith, e, c.loop-done-test.true)) c.read.ensures,
    )

pub returns : goal.returns
returns c =
    let l = c.loop-done in
    let a = c.args in
    read_all a.bytes.now a.self.at (width_of a.self) l.value l.done l.invariant.1 (omega arith)
