-- Why a call refuses, answers and leaves behind what it is to. Assumes nothing.
use Rattle.std.specs.Prelude.{Result, Ok, Err}
use Prim.Native.Nat.{ℕ, suc, ◌+◌, ◌-◌, ◌^◌, ◌≤◌, ◌<◌}
use mathlib.Core.Path.{◌≡◌, refl, sym, ap, ◌∙◌}
use mathlib.Core.Bool.{Bool, true, false, cond}
use mathlib.Core.List.{List, [], ◌++◌, append-nil}
use native.Mathlib.Nat.{add-zero}
use native.Mathlib.Omega.{arith}
use lib.ListN.{length, take, drop, replicate, length-append, length-drop}
use lib.Seq.{length-take-le}
use lib.Dec.{ltb, eqb}
use borrow.Author.Tests.{le-ltb, ltb-false, eq-eqb}
use Rattle.division.specs.Work.{tested_in}
use Rattle.division.proofs.TestedSteps.{tested_most_in}
use Rattle.refusal.specs.declared.Refusal.{Refusal}
use Rattle.refusal.specs.declared.Refusal.TheVariants.{SmallBuffer, BadState, Ended, TooMuch}
use Rattle.stream.specs.declared.State.{State}
use Rattle.stream.specs.declared.Reply.{Reply}
use Rattle.stream.specs.declared.Outcome.{Outcome}
use Rattle.stream.specs.declared.Outcome.TheVariants.{Message, Nothing}
use Rattle.stream.specs.Scan.{scan}
use Rattle.stream.specs.Feed.{Fed, fed, feed, finish}
use Rattle.stream.specs.Reader.{room, limit, most_summed, bad, laid, checked, feed_checked_by, feed_checked, Leaves, fed_call, feed_call, finished_call, finish_call}
use Rattle.stream.specs.Steps.{Allowed, Given, CameTo, settled_in, Tested, reply_to}
use Rattle.stream.proofs.WindowSteps.{laid_take}

-- ---- a bad state
pub bad_false : (held gap total summed : ℕ) → bad held gap total summed ≡ false → (held ≤ room) × (total ≤ limit) × (gap + held ≤ total) × (summed ≤ most_summed)
bad_false held gap total summed = go (ltb room held) refl (ltb limit total) refl (ltb most_summed summed) refl
  where
    clash : true ≡ false → ⊥
    clash z = let y : ◌≡◌ {A = ℕ} 0 1 = cc in omega arith

    go : (a : Bool) → ltb room held ≡ a → (b : Bool) → ltb limit total ≡ b → (c : Bool) → ltb most_summed summed ≡ c
        → cond a true (cond b true (cond c true (ltb total (gap + held)))) ≡ false → (held ≤ room) × (total ≤ limit) × (gap + held ≤ total) × (summed ≤ most_summed)
    go true x b y c w z = absurd (clash z)
    go false x true y c w z = absurd (clash z)
    go false x false y true w z = absurd (clash z)
    go false x false y false w z = (ltb-false room held x, ltb-false limit total y, ltb-false total (gap + held) z, ltb-false most_summed summed w)

-- ---- what an open gate has
opens : (t : Bool) (r : Refusal) (k : Result Unit Refusal) → cond t (Err r) k ≡ Ok tt → (t ≡ false) × (k ≡ Ok tt)
opens true r k e = absurd (let z : ◌≡◌ {A = ℕ} 0 1 = cc in omega arith)
opens false r k e = (refl, e)

pub checked_open : (s : State) (w o : ℕ) → checked s w o ≡ Ok tt → Allowed s w o 0
unfolding checked
checked_open s w o e =
    let a = opens (ltb w room) SmallBuffer _ e in
    let b = opens (ltb o room) SmallBuffer _ a.1 in
    let c = bad_false s.held s.gap s.total s.summed (opens (bad s.held s.gap s.total s.summed) BadState _ b.1).0 in
    record { window = ltb-false _ _ a.0; output = ltb-false _ _ b.0; held = c.0; sums = c.2; fits = omega arith; counted = c.3 }

module _ (s : State) (w o p : ℕ) where
  pub goes_on : checked s w o ≡ Ok tt → s.ended ≡ 0 → s.total + p ≤ limit → Ok tt ≡ feed_checked s w o p
  unfolding feed_checked feed_checked_by
  goes_on a n l = rw (a, eq-eqb s.ended 0 n, le-ltb limit (s.total + p) l)

  pub feed_allowed : feed_checked s w o p ≡ Ok tt → Allowed s w o p
  unfolding feed_checked feed_checked_by
  feed_allowed e = go (checked s w o) refl e
    where
      go : (g : Result Unit Refusal) → checked s w o ≡ g → feed_checked_by g s p ≡ Ok tt → Allowed s w o p
      go (Err r) x e = absurd (let z : ◌≡◌ {A = ℕ} 0 1 = cc in omega arith)
      go (Ok done) x e = test (eqb s.ended 0) e
        where
          a : Allowed s w o 0
          a = checked_open s w o x

          test : (t : Bool) → cond {A = Result Unit Refusal} t (cond (ltb limit (s.total + p)) (Err TooMuch) (Ok tt)) (Err Ended) ≡ Ok tt → Allowed s w o p
          test true e =
              let b = opens (ltb limit (s.total + p)) TooMuch _ e in
              record { window = a.window; output = a.output; held = a.held; sums = a.sums; fits = ltb-false _ _ b.0; counted = a.counted }
          test false e = absurd (let z : ◌≡◌ {A = ℕ} 0 1 = cc in omega arith)

pub allowed_fits : (s : State) (w o p : ℕ) → Allowed s w o p → (s.held ≤ room) × (room ≤ w) × (room ≤ o) × (s.gap + s.held + p ≤ limit)
allowed_fits s w o p a = (a.held, a.window, a.output, omega (arith, a.sums, a.fits))

-- ---- what a call leaves
-- the reply fits, and so do the bytes held and the bytes summed
pub came_fits : (e : Bool) (s : State) (d : Fed) (p w o : List ℕ) (x : Outcome) (u : ℕ) (w₁ o₁ : List ℕ) → Allowed s (length w) (length o) (length p) → CameTo d p w o x w₁ o₁
    → Tested s.gap (take s.held w ++ p) x u
    → (s.summed + u < 2 ^ 64) × ((reply_to s.total e x (s.summed + u)).state.total < 2 ^ 64) × ((reply_to s.total e x (s.summed + u)).state.held ≤ length w₁)
came_fits e s d p w o x u w₁ o₁ a c k = (omega (arith, k.sum, a.counted, tested_most_in (settled_in s.gap x) xs, long, a.held, a.fits), (go x c).0, (go x c).1)
  where
    xs : List ℕ
    xs = take s.held w ++ p

    long : length xs ≡ s.held + length p
    long = omega (arith, length-append (take s.held w) p, length-take-le s.held w (omega (arith, a.held, a.window)))

    go : (x : Outcome) → CameTo d p w o x w₁ o₁ → ((reply_to s.total e x (s.summed + u)).state.total < 2 ^ 64) × ((reply_to s.total e x (s.summed + u)).state.held ≤ length w₁)
    go (Message n g t h) c = (omega (arith, c.within, a.fits), omega (arith, c.held, c.same))
    go (Nothing g t h) c = (omega (arith, a.fits), omega arith)

module _ (s : State) (p w o : List ℕ) (d : Fed) (w₁ w₂ o₁ : List ℕ) (r : Reply) (v : w₂ ≡ take r.state.held w₁ ++ replicate (length w₁ - r.state.held) 0) where
  module _ (h : ℕ) (within : h ≤ length w) (same : length w₁ ≡ length w) where
    kept : length (take h w₁) ≡ h
    kept = length-take-le h w₁ (omega arith)

    clean : r.state.held ≡ h → w₂ ≡ laid (take h w₁) w
    clean z = laid_take h w w₁ w₂ (omega arith) same (v ∙ rw z)

  module _ (n g t h u : ℕ) (c : Given d p w o n g t h w₁ o₁) where
    fed_message : u ≡ tested_in (suc (g - s.gap)) (take s.held w ++ p) → r ≡ reply_to s.total false (Message n g t h) (s.summed + u) → Leaves (fed_call s w o p d) r w₂ o₁
    fed_message e q =
        let z : r.state.held ≡ h = ap (λ y. y.state.held) q in
        let y : length p - length (drop t p) ≡ t = omega (arith, length-drop t p, c.within) in
        rw c.is (record { reply = q ∙ ap (λ i. reply_to s.total false (Message n g t h) (s.summed + i)) e ∙ sym (rw (c.size, kept h c.held c.same, y)); window = clean h c.held c.same z; output = c.output })

    finished_message : length p ≡ 0 → u ≡ tested_in (suc (g - s.gap)) (take s.held w) → r ≡ reply_to s.total true (Message n g t h) (s.summed + u) → Leaves (finished_call s w o d) r w₂ o₁
    finished_message none e q =
        let z : r.state.held ≡ h = ap (λ y. y.state.held) q in
        let y : t ≡ 0 = omega (arith, c.within) in
        rw c.is (record { reply = q ∙ ap (λ i. reply_to s.total true (Message n g t h) (s.summed + i)) e ∙ rw (y, add-zero s.total) (sym (rw (c.size, kept h c.held c.same))); window = clean h c.held c.same z; output = c.output })

  module _ (g t h u : ℕ) (c : CameTo d p w o (Nothing g t h) w₁ o₁) where
    fed_nothing : u ≡ tested_in (g - s.gap) (take s.held w ++ p) → r ≡ reply_to s.total false (Nothing g t h) (s.summed + u) → Leaves (fed_call s w o p d) r w₂ o₁
    fed_nothing e q =
        let z : r.state.held ≡ h = ap (λ y. y.state.held) q in
        rw c.0 (record { reply = q ∙ ap (λ i. reply_to s.total false (Nothing g t h) (s.summed + i)) e ∙ sym (rw (kept h c.2 c.3, ← c.1)); window = clean h c.2 c.3 z; output = c.4 })

    finished_nothing : length p ≡ 0 → u ≡ tested_in (g - s.gap) (take s.held w) → r ≡ reply_to s.total true (Nothing g t h) (s.summed + u) → Leaves (finished_call s w o d) r w₂ o₁
    finished_nothing none e q =
        let z : r.state.held ≡ h = ap (λ y. y.state.held) q in
        let y : t ≡ 0 = c.1 ∙ none in
        rw c.0 (record { reply = q ∙ ap (λ i. reply_to s.total true (Nothing g t h) (s.summed + i)) e ∙ rw (y, add-zero s.total) (sym (rw (kept h c.2 c.3))); window = clean h c.2 c.3 z; output = c.4 })

-- ---- the calls
module _ (s : State) (p w o : List ℕ) where
  pub feed_refused : (r : Refusal) (a : Reply) → feed_checked s (length w) (length o) (length p) ≡ Err r → a ≡ record { answer = Err r; state = s } → Leaves (feed_call s p w o) a w o
  unfolding feed_call
  feed_refused r a z q = rw z (record { reply = q; window = refl; output = refl })

  pub feed_goes : (x : Outcome) (u : ℕ) (w₁ o₁ w₂ : List ℕ) (r : Reply) → feed_checked s (length w) (length o) (length p) ≡ Ok tt → CameTo (fed p (scan false (take s.held w) s.gap)) p w o x w₁ o₁
      → Tested s.gap (take s.held w ++ p) x u → r ≡ reply_to s.total false x (s.summed + u) → w₂ ≡ take r.state.held w₁ ++ replicate (length w₁ - r.state.held) 0 → Leaves (feed_call s p w o) r w₂ o₁
  unfolding feed_call feed
  feed_goes (Message n g t h) u w₁ o₁ w₂ r z c k q v = rw z (fed_message s p w o _ w₁ w₂ o₁ r v n g t h u c k.sum q)
  feed_goes (Nothing g t h) u w₁ o₁ w₂ r z c k q v = rw z (fed_nothing s p w o _ w₁ w₂ o₁ r v g t h u c k.sum q)

module _ (s : State) (w o : List ℕ) where
  pub finish_refused : (r : Refusal) (a : Reply) → checked s (length w) (length o) ≡ Err r → a ≡ record { answer = Err r; state = s } → Leaves (finish_call s w o) a w o
  unfolding finish_call
  finish_refused r a z q = rw z (record { reply = q; window = refl; output = refl })

  pub finish_goes : (x : Outcome) (u : ℕ) (w₁ o₁ w₂ : List ℕ) (r : Reply) → checked s (length w) (length o) ≡ Ok tt → CameTo (fed [] (scan true (take s.held w) s.gap)) [] w o x w₁ o₁
      → Tested s.gap (take s.held w ++ []) x u → r ≡ reply_to s.total true x (s.summed + u) → w₂ ≡ take r.state.held w₁ ++ replicate (length w₁ - r.state.held) 0 → Leaves (finish_call s w o) r w₂ o₁
  unfolding finish_call finish
  finish_goes (Message n g t h) u w₁ o₁ w₂ r z c k q v = rw z (finished_message s [] w o _ w₁ w₂ o₁ r v n g t h u c refl (rw (append-nil (take s.held w)) at k.sum) q)
  finish_goes (Nothing g t h) u w₁ o₁ w₂ r z c k q v = rw z (finished_nothing s [] w o _ w₁ w₂ o₁ r v g t h u c refl (rw (append-nil (take s.held w)) at k.sum) q)
