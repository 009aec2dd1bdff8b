-- What stands before `put` was appended.
use Rattle.std.proofs.Common.{◌≤◌, length, take}
use Rattle.std.specs.Io.KnownBytes.{Appends}
use Rattle.report.proofs.blocks.write_out.Given as goal

abbrev pub invariant-loop : goal.invariant-loop
invariant-loop g l = (l.put ≤ length l.text) × Appends (g.W.Write.contents l.initial.writer) (g.W.Write.contents l.writer) (take l.put l.text)
