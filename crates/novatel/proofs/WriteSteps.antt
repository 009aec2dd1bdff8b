-- What the tests of its fields tell of a record. Assumes nothing.
use Prim.Native.Nat.{ℕ, zero, suc, ◌≤◌}
use mathlib.Core.Path.{◌≡◌, refl}
use mathlib.Core.Bool.{Bool, true, false, false≢true}
use mathlib.Core.List.{List, [], ◌∷◌}
use lib.ListN.{get_or}
use borrow.Author.Tests.{leb-true}
use Rattle.novatel.specs.declared.Record.{Record}
use Rattle.novatel.specs.Record.{all, tests, fits}

-- of several that hold, each does
pub each : (bs : List Bool) → all bs ≡ true → (i : ℕ) → get_or bs i true ≡ true
each [] e i = refl
each (true ∷ bs) e zero = refl
each (true ∷ bs) e (suc i) = each bs e i
each (false ∷ bs) e i = absurd (false≢true e)

pub least_cn0 : (r : Record) → fits r ≡ true → 20 ≤ r.cn0
unfolding fits
least_cn0 r e = leb-true 20 r.cn0 (each (tests r) e 8)
