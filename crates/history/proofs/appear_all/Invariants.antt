-- `history::appear_all` meets its contract: before each turn the observations that came are taken. Assumes nothing.
use Prim.Native.Nat.{◌≤◌}
use mathlib.Core.Path.{◌≡◌}
use mathlib.Core.List.{[], ◌∷◌}
use lib.ListN.{length}
use Rattle.macm.proofs.Iterates.{each}
use Rattle.history.specs.Appearances.{appears}
use Rattle.history.specs.Steps.{Takes}
use Rattle.history.proofs.appear_all.Given as goal

abbrev pub invariant-loop-observation : goal.invariant-loop-observation
invariant-loop-observation l = (l.listed ≤ length l.yielded) × (length l.history ≡ length l.initial.history) × (length l.list ≡ length l.initial.list) × Takes l.initial.history l.initial.list 0 (each (λ o. appears l.time o ∷ []) l.yielded) l.listed l.history l.list
