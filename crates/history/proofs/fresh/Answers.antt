-- `history::fresh` meets its contract. Assumes nothing.
use mathlib.Core.Path.{refl}
use Rattle.history.specs.Words.{fresh_words}
use Rattle.history.proofs.fresh.Goals as goal

pub returns : goal.returns
unfolding fresh_words
returns c = refl
