-- `text::spell` meets its contract: the digits that it has yet to set, and those set behind them, are all of them. Assumes nothing.
use Prim.Native.Nat.{ℕ, zero, suc, ◌+◌, ◌-◌, ◌/◌, ◌%◌, ◌≤◌, ◌<◌}
use mathlib.Core.Path.{◌≡◌, sym, ap, ◌∙◌}
use mathlib.Core.List.{List, ◌++◌}
use native.Mathlib.Omega.{arith}
use native.Mathlib.Nat.{div-div-eq-div-mul}
use lib.ListN.{length, set, drop, length-set}
use Rattle.text.specs.Digits.{digit_of, digits}
use Rattle.text.proofs.Spelling.{digit_down, pair_low, pair_high}
use Rattle.text.proofs.spell.Goals as goal

down : (s w : List ℕ) (base i n : ℕ) → 1 < i → i ≤ length s → digits base i n ++ drop i s ≡ w
    → digits base (i - 2) (n / base / base) ++ drop (i - 2) (set (set s (i - 2 + 1) (digit_of (n % base))) (i - 2) (digit_of (n / base % base))) ≡ w
down s w base zero n l h e = absurd (omega arith)
down s w base (suc zero) n l h e = absurd (omega arith)
down s w base (suc (suc k)) n l h e =
    let z : suc (suc k) - 2 ≡ k = omega arith in
    let y : k + 1 ≡ suc k = omega arith in
    let t = set s (suc k) (digit_of (n % base)) in
    rw (z, y) (sym (digit_down t base k (n / base) (simp length-set (omega arith))) ∙ sym (digit_down s base (suc k) n (omega arith)) ∙ e)

pub loop-i-preserved : goal.loop-i-preserved
loop-i-preserved c =
    let s = c.args in
    let l = c.loop-i in
    let b = c.requires.0 in
    let low = c.digit.ensures ∙ ap digit_of (pair_low s.base l.rest b) in
    let high = c.digit-in-loop-i.ensures ∙ ap digit_of (pair_high s.base l.rest b) in
    (omega arith, simp length-set l.invariant.1, rw (low, high, ← (div-div-eq-div-mul l.rest s.base s.base)) (down l.out _ s.base l.i l.rest (omega arith) (omega arith) l.invariant.2))

pub returns-then-i-eq1 : goal.returns-then-i-eq1
unfolding digits
returns-then-i-eq1 c =
    let l = c.loop-i in
    let base = c.args.base in
    let z : l.i ≡ 1 = c.if-i-eq1.true in
    rw c.digit-then-i-eq1.ensures (sym (digit_down l.out base 0 l.rest (omega arith)) ∙ rw z at l.invariant.2)

pub returns-else-i-eq1 : goal.returns-else-i-eq1
unfolding digits
returns-else-i-eq1 c =
    let l = c.loop-i in
    let n = c.if-i-eq1.false in
    let z : l.i ≡ 0 = omega (arith, n) in
    rw z at l.invariant.2
