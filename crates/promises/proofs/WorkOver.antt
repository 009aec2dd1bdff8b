-- The work of a stream is the sum over all its positions of what each has run through the checksum. Assumes nothing.
use Prim.Native.Nat.{ℕ, zero, suc, ◌+◌, ◌-◌, ◌≤◌, ◌<◌}
use mathlib.Core.Path.{◌≡◌, refl, sym, ap, ◌∙◌}
use mathlib.Core.Bool.{Bool, true, false}
use mathlib.Core.List.{List, ◌∷◌}
use native.Mathlib.Nat.{zero-add, add-zero}
use native.Mathlib.Numerals.{add-one}
use native.Mathlib.Omega.{arith}
use lib.ListN.{length, drop, get_or, drop_of_length-le}
use lib.Seq.{drop-cons, drop-drop}
use lib.Dec.{ltb}
use borrow.Author.Tests.{ltb-true, ltb-false, eq-eqb, ne_eqb}
use Rattle.front.specs.Look.{tested}
use Rattle.division.specs.Division.{stands, divide}
use Rattle.division.specs.Work.{work_of}
use Rattle.reason.specs.Reason.{cover_of}
use Rattle.reason.proofs.CoverSteps.{Onward, cover_before, cover_gap, cover_message, covered_there, covered_onward}
use Rattle.account.proofs.Ahead.{Ahead, ahead_start}
use Rattle.promises.specs.Work.{tested_at, sum_over}
use Rattle.promises.proofs.Stands.{stands_le}
use Rattle.promises.proofs.WorkSteps.{work_nil, work_gap, work_message}

-- ---- sums
sum_split : (n m at : ℕ) (f : ℕ → ℕ) → sum_over (n + m) at f ≡ sum_over n at f + sum_over m (at + n) f
unfolding sum_over
sum_split zero m at f = rw (zero-add m, add-zero at) (sym (zero-add (sum_over m at f)))
sum_split (suc n) m at f =
    let z : suc n + m ≡ suc (n + m) = omega arith in
    let y : suc at + n ≡ at + suc n = omega arith in
    rw z (omega (arith, sum_split n m (suc at) f, ap (λ i. sum_over m i f) y))

sum_none : (n at : ℕ) (f : ℕ → ℕ) → ((p : ℕ) → at ≤ p → p < at + n → f p ≡ 0) → sum_over n at f ≡ 0
unfolding sum_over
sum_none zero at f h = refl
sum_none (suc n) at f h = omega (arith, h at (omega arith) (omega arith), sum_none n (suc at) f (λ p a b. h p (omega arith) (omega arith)))

-- ---- from a position that no message covers
module _ (s : List ℕ) (at : ℕ) (a : Ahead s at) (l : at < length s) where
  front : drop at s ≡ get_or s at 0 ∷ drop (suc at) s
  front = drop-cons s at 0 l

  here : tested_at s at ≡ tested (drop at s)
  here = rw (eq-eqb (cover_of s at) at (a.covers at (omega arith) ∙ cover_before (divide (drop at s) 0) at at (omega arith)))

  module _ (e : stands (drop at s) ≡ 0) where
    gap_work : work_of (drop at s) ≡ tested (drop at s) + work_of (drop (suc at) s)
    gap_work = rw front (work_gap (get_or s at 0) (drop (suc at) s) (rw front at e))

    behind_gap : Ahead s (suc at)
    behind_gap =
        let on : Ahead s (at + 1) = record { within = omega arith; covers = λ p j. a.covers p (omega arith) ∙ cover_gap s at p l e } in
        rw (add-one at) at on

  module _ (n : ℕ) (e : stands (drop at s) ≡ n) (some : 0 < n) where
    fits : n ≤ length (drop at s)
    fits = rw e at (stands_le (drop at s))

    first : (p : ℕ) → Onward s at p at n
    first p = cover_message s at p l n e some fits

    message_work : work_of (drop at s) ≡ tested (drop at s) + work_of (drop (at + n) s)
    message_work = rw (← drop-drop n at s) (rw front (work_message (get_or s at 0) (drop (suc at) s) n (rw front at e) some))

    inside : (p : ℕ) → suc at ≤ p → p < at + n → tested_at s p ≡ 0
    inside p j k = rw (ne_eqb (cover_of s p) p (λ z. omega (arith, a.covers p (omega arith) ∙ covered_there s at p at n (first p) k (omega arith))))

    behind_message : Ahead s (at + n)
    behind_message = record { within = (first at).within; covers = λ p j. a.covers p (omega arith) ∙ covered_onward s at p at n (first p) j }

-- ---- over all of them
at_end : (s : List ℕ) (at : ℕ) → length s ≤ at → work_of (drop at s) ≡ sum_over (length s - at) at (tested_at s)
unfolding sum_over
at_end s at l = let z : length s - at ≡ 0 = omega arith in rw (z, drop_of_length-le s l) work_nil

abbrev Over : ℕ → Type 0
Over k = (s : List ℕ) (at : ℕ) → Ahead s at → length s ≤ at + k → work_of (drop at s) ≡ sum_over (length s - at) at (tested_at s)

over : (k : ℕ) → Over k
unfolding sum_over
over zero s at a l = at_end s at (omega arith)
over (suc k) s at a l = go (ltb at (length s)) refl (over k)
  where
    go : (t : Bool) → ltb at (length s) ≡ t → Over k → work_of (drop at s) ≡ sum_over (length s - at) at (tested_at s)
    go false e ih = at_end s at (ltb-false at (length s) e)
    go true e ih = by (stands (drop at s)) refl
      where
        m : at < length s
        m = ltb-true at (length s) e

        by : (n : ℕ) → stands (drop at s) ≡ n → work_of (drop at s) ≡ sum_over (length s - at) at (tested_at s)
        by zero q =
            let z : length s - at ≡ suc (length s - suc at) = omega (arith, m) in
            rw z (omega (arith, gap_work s at a m q, here s at a m, ih s (suc at) (behind_gap s at a m q) (omega arith)))
        by (suc n) q =
            let b = behind_message s at a m (suc n) q (omega arith) in
            let z : length s - at ≡ suc (n + (length s - (at + suc n))) = omega (arith, b.within) in
            let y : suc at + n ≡ at + suc n = omega arith in
            let none = sum_none n (suc at) (tested_at s) (λ p i j. inside s at a m (suc n) q (omega arith) p i (omega arith)) in
            rw z (omega (arith, message_work s at a m (suc n) q (omega arith), here s at a m, sum_split n (length s - (at + suc n)) (suc at) (tested_at s), none, ap (λ i. sum_over (length s - (at + suc n)) i (tested_at s)) y, ih s (at + suc n) b (omega arith)))

pub work_is_their_sum : (s : List ℕ) → work_of s ≡ sum_over (length s) 0 (tested_at s)
work_is_their_sum s = let z : length s - 0 ≡ length s = omega arith in over (length s) s 0 (ahead_start s) (omega arith) ∙ ap (λ n. sum_over n 0 (tested_at s)) z
