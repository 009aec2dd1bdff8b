-- What was read stands behind what was kept.
use Rattle.std.proofs.Common.{◌++◌, take, drop, rules, arith, ap, ◌∙◌, length-take-le, length-drop}
use Rattle.std.proofs.Math.Seq.{take-add}
use Rattle.report.proofs.pending.Pending.read.Goals as goal

pub returns-clause-ok : goal.returns-clause-ok
returns-clause-ok g c =
    let kept = c.keep-kept.result in
    let count = c.in_ok-count.count in
    let block = c.read_behind.new.buffer in
    let bs = take count (drop kept block) in (
      bs,
      length-take-le count (drop kept block) (grind (arith, length-drop kept block, c.in_ok-count.ensures.fits)),
      take-add kept count block ∙ ap (λ l. l ++ bs) (search rules),
      c.in_ok-count.ensures.bytes,
    )
