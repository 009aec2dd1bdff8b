-- Each public contract of `stream` determines its answer, the state and every lent byte. Assumes nothing.
use mathlib.Core.Path.{refl}
use Rattle.owed.specs.Determined.{Determined}
use Rattle.owed.proofs.Same.{both}
use Rattle.stream.specs.contracts as contracts
use Rattle.stream.proofs as stream

pub feed_determined : Determined contracts.feed.ended stream.feed.Reads.Learnt
feed_determined κs a z z' w w' p q = (both p.reply q.reply, (refl, (refl, (both p.window q.window, (both p.output q.output, tt)))))

pub finish_determined : Determined contracts.finish.ended stream.finish.Reads.Learnt
finish_determined κs a z z' w w' p q = (both p.reply q.reply, (refl, (both p.window q.window, (both p.output q.output, tt))))

pub fresh_determined : Determined contracts.fresh.ended stream.fresh.Reads.Learnt
fresh_determined κs a z z' w w' p q = search both
