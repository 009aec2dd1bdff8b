-- `stream::divide` meets its contract: with nothing held the whole call is a feed of the piece. Assumes nothing.
use Rattle.stream.specs.Scan.{scan}
use Rattle.stream.specs.Feed.{feed}
use Rattle.stream.proofs.divide.Goals as goal

pub returns-then-held-eq0 : goal.returns-then-held-eq0
unfolding scan feed
returns-then-held-eq0 c = rw c.if-held-eq0.true c.in_place.ensures
