-- `bits::Field::write` meets its contract: what is left to write makes the whole of what is written. Assumes nothing.
use Rattle.std.proofs.Common.{◌+◌, ◌%◌, ◌/◌, arith}
use Rattle.bits.specs.Widths.{width_of}
use Rattle.bits.proofs.Steps.{write_next}
use Rattle.bits.proofs.Field.write.Goals as goal

pub loop-done-preserved : goal.loop-done-preserved
loop-done-preserved c =
    let l = c.loop-done in
    let a = c.args in
    let place = a.self.at % 8 + l.done in
    let e = c.min-count.ensures in (
      l.invariant.0,
      write_next a.bytes.now a.self.at (width_of a.self) a.value l.bytes l.left l.done l.invariant.1 (a.self.at / 8 + place / 8) (place % 8) c.min-count.result c.write.result
          (omega arith) (omega (arith, e)) (omega (arith, e, c.loop-done-test.true)) (omega arith) c.write.ensures,
    )
