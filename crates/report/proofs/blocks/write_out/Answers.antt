-- What a write took is appended to what the writes before it took.
use Rattle.std.proofs.Common.{take, rules, sym, subst}
use Rattle.std.specs.Io.KnownBytes.{Appends}
use Rattle.report.proofs.Pieces.{appends_more}
use Rattle.report.proofs.blocks.write_out.Goals as goal
use Rattle.report.proofs.blocks.write_out.Goals.{in-Ok, in-Err}

pub loop-preserved : goal.loop-preserved
loop-preserved g c = elim c.match-write.branch [
  | in-Ok w ↦
      let was = g.W.Write.contents c.args.writer.now in
      let is = g.W.Write.contents c.write.new.self in (
        search rules,
        subst (λ n. Appends was is (take n c.args.text.now)) (sym w.put-is)
            (appends_more was (g.W.Write.contents c.loop.writer) is c.args.text.now c.loop.put w.in-Ok.count c.loop.invariant.1 w.in-Ok.ensures.bytes),
      )
  | in-Err w ↦ search rules
]
