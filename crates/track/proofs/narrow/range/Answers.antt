-- `track::narrow::range` meets its contract. Assumes nothing.
use borrow.Author.Rules.{rules}
use Rattle.track.specs.Range.{range_of}
use Rattle.track.proofs.narrow.range.Goals as goal

pub returns : goal.returns
unfolding range_of
returns c = search rules
