-- What is the same part by part is equal as a whole, so `Same` leaves nothing out; and the step that every theorem on a determined answer takes.
-- Assumes nothing.
use mathlib.Core.Path.{◌≡◌, refl, sym, ◌∙◌}
use mathlib.Core.List.{List, [], ◌∷◌}
use Prim.Native.Nat.{ℕ}
use contract.Lifetimes.{Lfts}
use denote.RattleType.{Denots}
use denote.Signature.{Slot, types_at}
use denote.Triple.End.{Kepts, Fins}
use Rattle.std.specs.Prelude.{Result, Ok, Err, IfOk}
use Rattle.owed.specs.Determined.{Same, SameWell}

pub same_all : {n : ℕ} (κs : Lfts n) (ss : List (Slot n)) (ks : Kepts ss) (a : Denots (types_at ss κs)) (w w' : Fins κs ss ks a) → Same κs ss ks a w w' → w ≡ w'
same_all κs [] ks a w w' e = refl
same_all κs (s ∷ ss) ks a w w' e = λ i. (e.0 i, same_all κs ss ks.1 a.1 w.1 w'.1 e.1 i)

-- two that equal a third
pub both : {A : Type 0} {x y d : A} → x ≡ d → y ≡ d → x ≡ y
both p q = p ∙ sym q

-- two that end well only with a third
pub both_well : {A E : Type 0} (x : A) (r s : Result A E) → IfOk r (λ y. y ≡ x) → IfOk s (λ y. y ≡ x) → SameWell r s
both_well x (Ok y) (Ok z) p q = both p q
both_well x (Ok y) (Err e) p q = tt
both_well x (Err d) (Ok y) p q = tt
both_well x (Err d) (Err e) p q = tt
