-- `stream::wanted` meets its contract. Assumes nothing.
use mathlib.Core.Path.{sym}
use native.Mathlib.Omega.{arith}
use Rattle.stream.proofs.TurnSteps.{need_is, need_nothing, need_at_least, need_long, wanted_right}
use Rattle.stream.proofs.wanted.Goals as goal

pub overflow_sub-n : goal.overflow_sub-n
overflow_sub-n c = omega (arith, need_is _ _ _ (sym c.in-AtLeast.ensures) (need_at_least _))

pub overflow_sub-n-in-Long : goal.overflow_sub-n-in-Long
overflow_sub-n-in-Long c = omega (arith, need_is _ _ _ (sym c.in-Long.ensures) (need_long _))

pub returns-in-Nothing : goal.returns-in-Nothing
returns-in-Nothing c = absurd (omega (arith, need_is _ _ _ (sym c.in-Nothing.ensures) need_nothing))

pub returns-in-AtLeast : goal.returns-in-AtLeast
returns-in-AtLeast c = wanted_right _ _ _ _ (need_is _ _ _ (sym c.in-AtLeast.ensures) (need_at_least _)) c.requires c.min.ensures

pub returns-in-Long : goal.returns-in-Long
returns-in-Long c = wanted_right _ _ _ _ (need_is _ _ _ (sym c.in-Long.ensures) (need_long _)) c.requires c.min-in-Long.ensures
