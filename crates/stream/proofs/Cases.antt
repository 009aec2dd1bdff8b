-- A call by cases: each refusal under document 01's condition for it and no earlier one, or what the call goes on to. Assumes nothing.
use Rattle.std.specs.Prelude.{Result, Ok, Err}
use Prim.Native.Nat.{ℕ, ◌+◌, ◌≤◌, ◌<◌}
use mathlib.Core.Path.{◌≡◌, refl}
use mathlib.Core.Bool.{Bool, true, false, cond}
use mathlib.Core.Logic.{◌⊎◌, inl, inr}
use mathlib.Core.List.{List}
use native.Mathlib.Omega.{arith}
use lib.ListN.{length, take}
use lib.Dec.{ltb, eqb}
use borrow.Author.Tests.{ltb-true, ltb-false, eqb-true, eqb-false}
use Rattle.refusal.specs.declared.Refusal.TheVariants.{SmallBuffer, BadState, Ended, TooMuch}
use Rattle.stream.specs.declared.State.{State}
use Rattle.stream.specs.Feed.{feed, finish}
use Rattle.stream.specs.Reader.{room, limit, most_summed, bad, checked, feed_checked_by, feed_checked, Call, refusal, fed_call, feed_by, feed_call, finished_call, finish_by, finish_call}
use Rattle.stream.specs.Steps.{Allowed}
use Rattle.stream.proofs.CallSteps.{bad_false}
use Rattle.refusal.specs.declared.Refusal.{Refusal}

-- a window or an output that is too small; a state that no run leaves
abbrev pub Small : ℕ → ℕ → Type 0
Small w o = (w < room) ⊎ (o < room)

abbrev pub Bad : State → Type 0
Bad s = (room < s.held) ⊎ ((limit < s.total) ⊎ ((most_summed < s.summed) ⊎ (s.total < s.gap + s.held)))

bad_true : (s : State) → bad s.held s.gap s.total s.summed ≡ true → Bad s
bad_true s = go (ltb room s.held) refl (ltb limit s.total) refl (ltb most_summed s.summed) refl
  where
    go : (a : Bool) → ltb room s.held ≡ a → (b : Bool) → ltb limit s.total ≡ b → (c : Bool) → ltb most_summed s.summed ≡ c
        → cond a true (cond b true (cond c true (ltb s.total (s.gap + s.held)))) ≡ true → Bad s
    go true x b y c w z = inl (ltb-true room s.held x)
    go false x true y c w z = inr (inl (ltb-true limit s.total y))
    go false x false y true w z = inr (inr (inl (ltb-true most_summed s.summed w)))
    go false x false y false w z = inr (inr (inr (ltb-true s.total (s.gap + s.held) z)))

module _ (s : State) (w o : ℕ) (P : Result Unit Refusal → Type 0) (small : Small w o → P (Err SmallBuffer)) (wrong : room ≤ w → room ≤ o → Bad s → P (Err BadState)) (opens : Allowed s w o 0 → P (Ok tt)) where
  checked_cases : P (checked s w o)
  unfolding checked
  checked_cases = go (ltb w room) refl (ltb o room) refl (bad s.held s.gap s.total s.summed) refl
    where
      go : (a : Bool) → ltb w room ≡ a → (b : Bool) → ltb o room ≡ b → (c : Bool) → bad s.held s.gap s.total s.summed ≡ c
          → P (cond a (Err SmallBuffer) (cond b (Err SmallBuffer) (cond c (Err BadState) (Ok tt))))
      go true h b i c j = small (inl (ltb-true w room h))
      go false h true i c j = small (inr (ltb-true o room i))
      go false h false i true j = wrong (ltb-false w room h) (ltb-false o room i) (bad_true s j)
      go false h false i false j =
          let f = bad_false s.held s.gap s.total s.summed j in
          opens (record { window = ltb-false w room h; output = ltb-false o room i; held = f.0; sums = f.2; fits = omega arith; counted = f.3 })

module _ (s : State) (w o : List ℕ) (P : Call → Type 0) (small : Small (length w) (length o) → P (refusal SmallBuffer s w o)) (wrong : room ≤ length w → room ≤ length o → Bad s → P (refusal BadState s w o)) where
  pub finish_cases : (Allowed s (length w) (length o) 0 → P (finished_call s w o (finish (take s.held w) s.gap))) → P (finish_call s w o)
  unfolding finish_call
  finish_cases goes = checked_cases s (length w) (length o) (λ g. P (finish_by g s w o)) small wrong goes

  pub feed_cases : (p : List ℕ) → (Allowed s (length w) (length o) 0 → (s.ended ≡ 0 → ⊥) → P (refusal Ended s w o)) → (Allowed s (length w) (length o) 0 → s.ended ≡ 0 → limit < s.total + length p → P (refusal TooMuch s w o))
      → (Allowed s (length w) (length o) (length p) → s.ended ≡ 0 → P (fed_call s w o p (feed (take s.held w) s.gap p))) → P (feed_call s p w o)
  unfolding feed_call feed_checked feed_checked_by
  feed_cases p ended much goes = checked_cases s (length w) (length o) (λ g. P (feed_by (feed_checked_by g s (length p)) s p w o)) small wrong on
    where
      on : Allowed s (length w) (length o) 0 → P (feed_by (feed_checked_by (Ok tt) s (length p)) s p w o)
      on a = test (eqb s.ended 0) refl (ltb limit (s.total + length p)) refl
        where
          test : (b : Bool) → eqb s.ended 0 ≡ b → (c : Bool) → ltb limit (s.total + length p) ≡ c → P (feed_by (cond b (cond c (Err TooMuch) (Ok tt)) (Err Ended)) s p w o)
          test false h c i = ended a (eqb-false s.ended 0 h)
          test true h true i = much a (eqb-true s.ended 0 h) (ltb-true limit (s.total + length p) i)
          test true h false i =
              goes (record { window = a.window; output = a.output; held = a.held; sums = a.sums; fits = ltb-false limit (s.total + length p) i; counted = a.counted }) (eqb-true s.ended 0 h)
