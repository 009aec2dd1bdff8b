-- Bytes that go out in parts.
use Rattle.std.proofs.Common.{◌+◌, ◌-◌, ℕ, List, length, take, drop, sym, subst}
use Rattle.std.specs.Prelude.{Option}
use Rattle.std.specs.Io.KnownBytes.{Appends}
use Rattle.std.proofs.KnownBytes.{Appends-trans}
use Rattle.std.proofs.Math.Seq.{take-add}
use Rattle.std.proofs.lemmas.List.{take_rest}

-- after the first n, the first m of the rest
pub appends_more : (a b c : Option (List ℕ)) (all : List ℕ) (n m : ℕ) → Appends a b (take n all)
    → Appends b c (take m (take (length all - n) (drop n all))) → Appends a c (take (n + m) all)
appends_more a b c all n m first second =
    let second' : Appends b c (take m (drop n all)) = subst (λ l. Appends b c (take m l)) (take_rest all n) second in
    subst (Appends a c) (sym (take-add n m all)) (Appends-trans a b c _ _ first second')
