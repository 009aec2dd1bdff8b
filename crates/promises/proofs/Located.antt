-- Where a position lies among the messages of a division. Assumes nothing.
use Prim.Native.Nat.{ℕ, ◌+◌, ◌-◌, ◌≤◌, ◌<◌}
use mathlib.Core.Path.{◌≡◌, refl, sym, ap, ◌∙◌}
use mathlib.Core.Logic.{◌⊎◌, inl, inr, ⊎_elim}
use mathlib.Core.Bool.{Bool, true, false, cond}
use mathlib.Core.List.{List}
use native.Mathlib.Omega.{arith}
use lib.ListN.{length}
use lib.Dec.{ltb}
use borrow.Author.Tests.{ltb-true, ltb-false}
use Rattle.division.specs.Division.{Division, last, part, divide}
use Rattle.reason.specs.Reason.{cover_in, cover_of}
use Rattle.promises.specs.Run.{Run, gave, as_run}
use Rattle.promises.specs.Given.{Given, Uncovered}
use Rattle.promises.specs.Reason.{messages, CoverBegins}
use Rattle.promises.proofs.GivenIff.{apart}

-- ---- of a division that begins at `at`
record In (r : Run) (at p q : ℕ) : Type 0 where
  message : List ℕ
  from : at ≤ q
  before : q < p
  given : Given r (q - at) message
  reaches : p < q + length message

abbrev Located : Run → ℕ → ℕ → ℕ → Type 0
Located r at p q = ((q ≡ p) × Uncovered r (p - at)) ⊎ In r at p q

-- behind a message
past : (g : ℕ) (m : List ℕ) (r : Run) (at p q : ℕ) → at + g + length m ≤ p → Located r (at + g + length m) p q → Located (gave g m r) at p q
past g m r at p q l (inl h) = inl (h.0, λ i n k j. ⊎_elim (λ a. omega (arith, a.0, ap length a.1)) (λ a. on i n j a) k)
  where
    on : (i : ℕ) (n : List ℕ) → i < p - at → (g + length m ≤ i) × Given r (i - (g + length m)) n → i + length n ≤ p - at
    on i n j a = omega (arith, a.0, h.1 (i - (g + length m)) n a.1 (omega (arith, a.0)))
past g m r at p q l (inr h) =
    let z : q - (at + g + length m) ≡ q - at - (g + length m) = omega arith in
    inr (record { message = h.message; from = omega (arith, h.from); before = h.before; given = inr (omega (arith, h.from), rw (← z) h.given); reaches = h.reaches })

located : (d : Division) (at p : ℕ) → at ≤ p → Located (as_run d) at p (cover_in d at p)
unfolding cover_in as_run
located (last g) at p l = inl (refl, λ q m h k. absurd h)
located (part g m d) at p l = go (ltb p (at + g + length m)) refl (ltb (at + g) p) refl (located d (at + g + length m) p)
  where
    go : (a : Bool) → ltb p (at + g + length m) ≡ a → (b : Bool) → ltb (at + g) p ≡ b
        → (at + g + length m ≤ p → Located (as_run d) (at + g + length m) p (cover_in d (at + g + length m) p))
        → Located (gave g m (as_run d)) at p (cond a (cond b (at + g) p) (cover_in d (at + g + length m) p))
    go true e true f ih = inr (record { message = m; from = omega arith; before = ltb-true (at + g) p f; given = inl (omega arith, refl); reaches = ltb-true p (at + g + length m) e })
    go true e false f ih =
        let l' = ltb-true p (at + g + length m) e in
        let k' = ltb-false (at + g) p f in
        inl (refl, λ i n h j. ⊎_elim (λ a. absurd (omega (arith, a.0))) (λ a. absurd (omega (arith, a.0))) h)
    go false e b f ih = let l' = ltb-false p (at + g + length m) e in past g m (as_run d) at p (cover_in d (at + g + length m) p) l' (ih l')

-- ---- of a recording
module _ (s : List ℕ) (p : ℕ) where
  pub cover_begins : CoverBegins s p (cover_of s p)
  cover_begins = go (located (divide s 0) 0 p (omega arith))
    where
      go : Located (messages s) 0 p (cover_of s p) → CoverBegins s p (cover_of s p)
      go (inl h) = let z : p - 0 ≡ p = omega arith in inl (h.0, rw z at h.1)
      go (inr h) =
          let z : cover_of s p - 0 ≡ cover_of s p = omega arith in
          inr (h.before, (h.message, rw z at h.given, h.reaches))

  -- and there is one such place
  pub cover_is : (q : ℕ) → CoverBegins s p q → cover_of s p ≡ q
  cover_is q h = go (cover_of s p) cover_begins h
    where
      go : (c : ℕ) → CoverBegins s p c → CoverBegins s p q → c ≡ q
      go c (inl a) (inl b) = a.0 ∙ sym b.0
      go c (inl a) (inr b) = absurd (omega (arith, a.1 q b.1.0 b.1.1 b.0, b.1.2))
      go c (inr a) (inl b) = absurd (omega (arith, b.1 c a.1.0 a.1.1 a.0, a.1.2))
      go c (inr a) (inr b) = same (ltb c q) refl (ltb q c) refl
        where
          same : (t : Bool) → ltb c q ≡ t → (u : Bool) → ltb q c ≡ u → c ≡ q
          same true e u f = absurd (omega (arith, apart (messages s) q c b.1.0 a.1.0 b.1.1 a.1.1 (ltb-true c q e), a.1.2, b.0))
          same false e true f = absurd (omega (arith, apart (messages s) c q a.1.0 b.1.0 a.1.1 b.1.1 (ltb-true q c f), b.1.2, a.0))
          same false e false f = omega (arith, ltb-false c q e, ltb-false q c f)
