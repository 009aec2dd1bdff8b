-- A part of a recording that begins where the cover of a position does tells the position's reason. Assumes nothing.
use Rattle.std.specs.Prelude.{Result, Ok, Err}
use Prim.Native.Nat.{ℕ, ◌+◌, ◌-◌, ◌≤◌, ◌<◌}
use mathlib.Core.Path.{◌≡◌, refl, sym, ap, ◌∙◌}
use mathlib.Core.Logic.{inl, inr}
use mathlib.Core.List.{List}
use native.Mathlib.Omega.{arith}
use lib.ListN.{length, take, drop}
use Rattle.reason.specs.declared.Reason.{Reason}
use Rattle.reason.specs.declared.Reason.TheVariants.{Inside, Given as GivenHere, Sync, CutUnknown, CutShort, Checksum}
use Rattle.reason.specs.Reason.{here_of, reason_of}
use Rattle.reason.proofs.HereStands.{Stands, here_stands}
use Rattle.reason.proofs.CoverSteps.{at_inside}
use Rattle.account.proofs.Ahead.{ahead_start, settled}
use Rattle.promises.specs.Given.{Uncovered}
use Rattle.promises.specs.Reason.{messages, shifted, CoverBegins}
use Rattle.promises.proofs.GivenIff.{given_stands}
use Rattle.promises.proofs.Located.{cover_is}
use Rattle.promises.proofs.FirstBytes.{here_front}
use Rattle.promises.proofs.ReasonHolds.{given_here, here_of_lem}
use Rattle.refusal.specs.declared.Refusal.{Refusal}

-- nothing covers the first byte
first_uncovered : (s : List ℕ) → Uncovered (messages s) 0
first_uncovered s q m g l = absurd (omega arith)

-- a reason by the bytes alone is the same wherever they are counted from
shifted_here : (q : ℕ) (xs : List ℕ) → shifted q (here_of xs) ≡ here_of xs
shifted_here q xs = go (here_of xs) (here_stands xs)
  where
    go : (r : Result Reason Refusal) → Stands xs r → shifted q r ≡ r
    go (Err f) h = refl
    go (Ok (Inside i)) h = absurd h
    go (Ok (GivenHere n)) h = refl
    go (Ok (Sync k)) h = refl
    go (Ok CutUnknown) h = refl
    go (Ok (CutShort n)) h = refl
    go (Ok (Checksum t)) h = refl

pub part_says : (s : List ℕ) (p q k : ℕ) → p < length s → CoverBegins s p q → 6136 ≤ k → reason_of s p ≡ shifted q (reason_of (take k (drop q s)) (p - q))
part_says s p q k l (inl h) long =
    let t = take k (drop q s) in
    let z : p - q ≡ 0 = omega (arith, h.0) in
    here_of_lem s p h.1 ∙ ap (λ i. here_of (drop i s)) (sym h.0) ∙ sym (here_front (drop q s) k long) ∙ sym (shifted_here q t) ∙ ap (shifted q) (sym (here_of_lem t 0 (first_uncovered t)) ∙ ap (reason_of t) (sym z))
part_says s p q k l (inr h) long =
    let t = take k (drop q s) in
    let m = h.1.0 in
    let g = given_stands s q m h.1.1 in
    let e : here_of t ≡ Ok (GivenHere (length m)) = here_front (drop q s) k long ∙ given_here (drop q s) (length m) g.0 g.1 in
    let here = here_stands t in
    let b : Stands t (Ok (GivenHere (length m))) = rw e at here in
    let f = settled t 0 (ahead_start t) (omega (arith, b.1, b.2)) (Ok (GivenHere (length m))) (sym e) in
    let z : q + 0 ≡ q = omega arith in
    sym (at_inside s p l q (sym (cover_is s p q (inr h))) h.0) ∙ ap (λ j. Ok (Inside j)) (sym z) ∙ ap (shifted q) (sym (f.inside (p - q) (omega (arith, h.0)) (omega (arith, h.1.2, h.0))))
