-- `stream::pull` meets its contract. Assumes nothing.
use Rattle.stream.proofs.WindowSteps.{pull_part}
use Rattle.stream.proofs.pull.Goals as goal

pub put-requires : goal.put-requires
put-requires c =
    let moved = c.shift in
    let x = c.args in
    pull_part x.from x.n x.taken x.window.now x.piece.now moved.new.window c.requires moved.ensures _ c.wanted-more.ensures
