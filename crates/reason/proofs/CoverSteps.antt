-- Where a position is covered, from one message of the division to the next. Assumes nothing.
use Rattle.std.specs.Prelude.{Result, Ok, Err}
use Prim.Native.Nat.{ℕ, min, ◌+◌, ◌≤◌, ◌<◌}
use mathlib.Core.Path.{◌≡◌, refl, sym, ap, ◌∙◌}
use mathlib.Core.Bool.{Bool, true, false, cond}
use mathlib.Core.List.{List, ◌∷◌}
use native.Mathlib.Omega.{arith}
use native.Mathlib.Numerals.{add-one}
use lib.ListN.{length, get_or, take, drop, length-drop}
use lib.Seq.{length-take-le, drop-cons, drop-drop}
use lib.Dec.{ltb}
use borrow.Author.Tests.{lt-ltb, le-ltb, ltb-true, ltb-false}
use Rattle.refusal.specs.declared.Refusal.{Refusal}
use Rattle.refusal.specs.declared.Refusal.TheVariants.{PastEnd}
use Rattle.division.specs.declared.Next.{Next}
use Rattle.division.specs.declared.Next.TheVariants.{Message as Found, End as NoneLeft}
use Rattle.division.specs.declared.Walked.{Walked}
use Rattle.division.specs.declared.Walked.TheVariants.{Message, Unsettled}
use Rattle.division.specs.Division.{Division, last, part, stands, divide}
use Rattle.division.specs.Walk.{walk_of}
use Rattle.division.specs.Plain.{next_of}
use Rattle.division.proofs.DivideSteps.{divide_gap, divide_message}
use Rattle.division.proofs.PlainSteps.{Ends, walk_ends, passed_is, next_given, next_end}
use Rattle.reason.specs.declared.Reason.TheVariants.{Inside}
use Rattle.reason.specs.Reason.{cover_in, cover_of, reason_of}

-- nothing covers what stands before the division
pub cover_before : (d : Division) (at p : ℕ) → p ≤ at → cover_in d at p ≡ p
unfolding cover_in
cover_before (last g) at p l = refl
cover_before (part g m d) at p l = rw (le-ltb (at + g) p (omega arith), cover_before d (at + g + length m) p (omega arith)) (go (ltb p (at + g + length m)))
  where
    go : (b : Bool) → cond b p p ≡ p
    go true = refl
    go false = refl

-- ---- the first message from `at` on stands at q and has n bytes: what that says of where p is covered
pub record Onward (s : List ℕ) (at p q n : ℕ) : Type 0 where
  pub from : at ≤ q
  pub some : 0 < n
  pub within : q + n ≤ length s
  pub covers : cover_in (divide (drop at s) 0) at p ≡ cond (ltb p (q + n)) (cond (ltb q p) q p) (cover_in (divide (drop (q + n) s) 0) (q + n) p)

module _ (s : List ℕ) (at p q n : ℕ) (h : Onward s at p q n) where
  pub covered_there : p < q + n → q < p → cover_in (divide (drop at s) 0) at p ≡ q
  covered_there l k = h.covers ∙ rw (lt-ltb p (q + n) l, lt-ltb q p k)

  pub covered_here : p < q + n → cover_in (divide (drop at s) 0) at p ≡ min q p
  covered_here l = h.covers ∙ rw (lt-ltb p (q + n) l) (go (ltb q p) refl)
    where
      go : (b : Bool) → ltb q p ≡ b → cond b q p ≡ min q p
      go true e = omega (arith, ltb-true q p e)
      go false e = omega (arith, ltb-false q p e)

  pub covered_onward : q + n ≤ p → cover_in (divide (drop at s) 0) at p ≡ cover_in (divide (drop (q + n) s) 0) (q + n) p
  covered_onward l = h.covers ∙ rw (le-ltb p (q + n) l)

-- ---- at a position that no message covers
module _ (s : List ℕ) (at p : ℕ) (l : at < length s) where
  x : ℕ
  x = get_or s at 0

  xs : List ℕ
  xs = drop (at + 1) s

  front : drop at s ≡ x ∷ xs
  unfolding x xs
  front = drop-cons s at 0 l ∙ ap (λ i. get_or s at 0 ∷ drop i s) (sym (add-one at))

  -- a gap byte covers nothing
  pub cover_gap : stands (drop at s) ≡ 0 → cover_in (divide (drop at s) 0) at p ≡ cover_in (divide (drop (at + 1) s) 0) (at + 1) p
  unfolding cover_in x xs
  cover_gap e = ap (λ d. cover_in d at p) (ap (λ r. divide r 0) front ∙ divide_gap x xs 0 (rw front at e)) ∙ go (walk_of true xs 0 0) (walk_ends xs 0 0)
    where
      go : (w : Walked) → Ends xs 0 w → cover_in (divide xs 1) at p ≡ cover_in (divide xs 0) (at + 1) p
      go (Message k n t) f =
          let z : at + (1 + f.ahead) ≡ at + 1 + (0 + f.ahead) = omega arith in
          rw (f.is 1, f.is 0, z)
      go (Unsettled k) f = rw (f.1 1, f.1 0)

  -- a message covers what lies behind its first byte up to its end
  pub cover_message : (n : ℕ) → stands (drop at s) ≡ n → 0 < n → n ≤ length (drop at s) → Onward s at p at n
  unfolding cover_in x xs
  cover_message n e some here =
      let z : at + 0 ≡ at = omega arith in
      let d : divide (drop at s) 0 ≡ part 0 (take n (drop at s)) (divide (drop (at + n) s) 0) =
      ap (λ r. divide r 0) front ∙ divide_message x xs 0 n (rw front at e) some ∙ ap (λ r. part 0 (take n r) (divide (drop n r) 0)) (sym front)
      ∙ ap (λ r. part 0 (take n (drop at s)) (divide r 0)) (drop-drop n at s) in
      record { from = omega arith; some = some; within = omega (arith, length-drop at s); covers = rw (d, length-take-le n (drop at s) here, z) }

-- ---- what the plain reader's answer from a start on says of it
abbrev Next_says : List ℕ → ℕ → ℕ → Result Next Refusal → Type 0
Next_says s at p (Err r) = ⊥
Next_says s at p (Ok (Found q n g)) = Onward s at p q n
Next_says s at p (Ok (NoneLeft g)) = cover_in (divide (drop at s) 0) at p ≡ p

module _ (s : List ℕ) (at p : ℕ) (l : at ≤ length s) where
  next_says : Next_says s at p (next_of s at)
  unfolding cover_in
  next_says = go (walk_of true (drop at s) 0 0) (walk_ends (drop at s) 0 0)
    where
      go : (w : Walked) → Ends (drop at s) 0 w → Next_says s at p (next_of s at)
      go (Message k n t) f =
          let long : length (take n (drop (at + k) s)) ≡ n = length-take-le n (drop (at + k) s) (omega (arith, f.within, f.counted, length-drop at s, length-drop (at + k) s)) in
          rw (← next_given s at l k n f)
          (record { from = omega arith; some = f.some; within = omega (arith, f.within, f.counted, length-drop at s); covers = rw (passed_is s at k n f, long) })
      go (Unsettled k) f = rw (← next_end s at l k f, f.1 0)

  -- as the code has it
  module _ (r : Result Next Refusal) (e : r ≡ next_of s at) where
    pub found_says : (q n g : ℕ) → r ≡ Ok (Found q n g) → Onward s at p q n
    found_says q n g z = rw (← e, z) at next_says

    pub end_says : (g : ℕ) → r ≡ Ok (NoneLeft g) → cover_in (divide (drop at s) 0) at p ≡ p
    end_says g z = rw (← e, z) at next_says

    pub refused_says : (f : Refusal) → r ≡ Err f → cover_in (divide (drop at s) 0) at p ≡ p
    refused_says f z = absurd (rw (← e, z) at next_says)

-- ---- the reason at a position
module _ (s : List ℕ) (p : ℕ) where
  pub at_end : length s ≤ p → Err PastEnd ≡ reason_of s p
  unfolding reason_of
  at_end l = rw (le-ltb p (length s) l)

  module _ (l : p < length s) (q : ℕ) (e : q ≡ cover_of s p) where
    pub at_inside : q < p → Ok (Inside q) ≡ reason_of s p
    unfolding reason_of
    at_inside k = rw (lt-ltb p (length s) l, ← e, lt-ltb q p k)
