-- A message is given at a position exactly if a valid one stands there and no message given earlier covers it. Assumes nothing.
use Prim.Native.Nat.{ℕ, zero, suc, ◌+◌, ◌-◌, ◌≤◌, ◌<◌}
use mathlib.Core.Path.{◌≡◌, refl, sym, ap, ◌∙◌}
use mathlib.Core.Logic.{inl, inr, ⊎_elim}
use mathlib.Core.Bool.{Bool, true, false}
use mathlib.Core.List.{List, [], ◌∷◌}
use native.Mathlib.Nat.{add-zero, zero-add}
use native.Mathlib.Omega.{arith}
use lib.ListN.{length, take, drop, length-drop}
use lib.Seq.{length-take-le, take_all, drop-drop, drop-nil, get_or-drop}
use lib.Dec.{leb}
use borrow.Author.Tests.{leb-true, leb-false}
use Rattle.octets.specs.Numbers.{Bytes}
use Rattle.octets.specs.Parts.{part}
use Rattle.macm.specs.Check.{verdict}
use Rattle.macm.specs.Answers.{check_number}
use Rattle.front.specs.Look.{Look, unsettled, gap, message, look}
use Rattle.front.proofs.Bounds.{look_fact}
use Rattle.division.specs.Division.{length_of, stands, divide}
use Rattle.division.proofs.DivideSteps.{divide_nil, divide_gap, divide_message}
use Rattle.promises.specs.Run.{Run, refused, unfinished, ended, gave, as_run}
use Rattle.promises.specs.Given.{Given, Uncovered, Valid}
use Rattle.promises.proofs.Stands.{stands_le, stands_nil}
use Rattle.promises.proofs.Checked.{message_checked, checked_message}

-- ---- what is given covers nothing that is given later
pub apart : (r : Run) (p q : ℕ) (m m' : List ℕ) → Given r p m → Given r q m' → q < p → q + length m' ≤ p
apart (refused r) p q m m' h h' l = absurd h
apart unfinished p q m m' h h' l = absurd h
apart (ended g) p q m m' h h' l = absurd h
apart (gave g M r) p q m m' h h' l =
    ⊎_elim
    (λ a. ⊎_elim (λ b. absurd (omega (arith, a.0, b.0))) (λ b. absurd (omega (arith, a.0, b.0))) h')
    (λ a. ⊎_elim (λ b. omega (arith, a.0, b.0, ap length b.1)) (later (apart r (p - (g + length M)) (q - (g + length M)) m m') a) h')
    h
  where
    later : (Given r (p - (g + length M)) m → Given r (q - (g + length M)) m' → q - (g + length M) < p - (g + length M) → q - (g + length M) + length m' ≤ p - (g + length M))
        → (g + length M ≤ p) × Given r (p - (g + length M)) m → (g + length M ≤ q) × Given r (q - (g + length M)) m' → q + length m' ≤ p
    later ih a b = omega (arith, a.0, b.0, ih a.1 b.1 (omega (arith, a.0, b.0)))

-- ---- what is given in a division that begins after g gap bytes
record At (xs : List ℕ) (g p : ℕ) (m : List ℕ) : Type 0 where
  after : g ≤ p
  long : stands (drop (p - g) xs) ≡ length m
  bytes : m ≡ take (length m) (drop (p - g) xs)
  some : 0 < length m

given_at : (k : ℕ) (xs : List ℕ) (g p : ℕ) (m : List ℕ) → length xs ≤ k → Given (as_run (divide xs g)) p m → At xs g p m
unfolding as_run
given_at zero [] g p m l h = absurd (rw (divide_nil g) at h)
given_at zero (x ∷ xs) g p m l h = absurd (omega arith)
given_at (suc k) [] g p m l h = absurd (rw (divide_nil g) at h)
given_at (suc k) (x ∷ xs) g p m l h = go (stands (x ∷ xs)) refl (given_at k)
  where
    go : (n : ℕ) → stands (x ∷ xs) ≡ n → ((xs : List ℕ) (g p : ℕ) (m : List ℕ) → length xs ≤ k → Given (as_run (divide xs g)) p m → At xs g p m) → At (x ∷ xs) g p m
    go zero e ih =
        let a = ih xs (suc g) p m (omega arith) (rw (divide_gap x xs g e) at h) in
        let z : p - g ≡ suc (p - suc g) = omega (arith, a.after) in
        record { after = omega (arith, a.after); long = ap (λ i. stands (drop i (x ∷ xs))) z ∙ a.long; bytes = a.bytes ∙ ap (λ i. take (length m) (drop i (x ∷ xs))) (sym z); some = a.some }
    go (suc n) e ih = ⊎_elim here there (rw (divide_message x xs g (suc n) e (omega arith)) at h)
      where
        M : List ℕ
        M = take (suc n) (x ∷ xs)

        M_long : length M ≡ suc n
        M_long = length-take-le (suc n) (x ∷ xs) (rw e at (stands_le (x ∷ xs)))

        here : (p ≡ g) × (m ≡ M) → At (x ∷ xs) g p m
        here a =
            let z : p - g ≡ 0 = omega (arith, a.0) in
            let w : length m ≡ suc n = ap length a.1 ∙ M_long in
            record { after = omega (arith, a.0); long = ap (λ i. stands (drop i (x ∷ xs))) z ∙ e ∙ sym w; bytes = a.1 ∙ ap (λ i. take i (x ∷ xs)) (sym w) ∙ ap (λ i. take (length m) (drop i (x ∷ xs))) (sym z); some = omega arith }

        there : (g + length M ≤ p) × Given (as_run (divide (drop (suc n) (x ∷ xs)) 0)) (p - (g + length M)) m → At (x ∷ xs) g p m
        there a =
            let b = ih (drop (suc n) (x ∷ xs)) 0 (p - (g + length M)) m (omega (arith, length-drop n xs)) a.1 in
            let z : suc n + (p - (g + length M) - 0) ≡ p - g = omega (arith, a.0, M_long) in
            let d : drop (p - (g + length M) - 0) (drop (suc n) (x ∷ xs)) ≡ drop (p - g) (x ∷ xs) = drop-drop (p - (g + length M) - 0) (suc n) (x ∷ xs) ∙ ap (λ i. drop i (x ∷ xs)) z in
            record { after = omega (arith, a.0); long = ap stands (sym d) ∙ b.long; bytes = b.bytes ∙ ap (take (length m)) d; some = b.some }

-- ---- and what stands uncovered is given
abbrev UncoveredGiven : ℕ → Type 0
UncoveredGiven k = (xs : List ℕ) (g d n : ℕ) → length xs ≤ k → stands (drop d xs) ≡ suc n → Uncovered (as_run (divide xs g)) (g + d)
    → Given (as_run (divide xs g)) (g + d) (take (suc n) (drop d xs))

uncovered_given : (k : ℕ) → UncoveredGiven k
unfolding as_run
uncovered_given zero [] g d n l s u = absurd (omega (arith, sym s ∙ ap stands (drop-nil d) ∙ stands_nil))
uncovered_given zero (x ∷ xs) g d n l s u = absurd (omega arith)
uncovered_given (suc k) [] g d n l s u = absurd (omega (arith, sym s ∙ ap stands (drop-nil d) ∙ stands_nil))
uncovered_given (suc k) (x ∷ xs) g d n l s u = go (stands (x ∷ xs)) refl d s u (uncovered_given k)
  where
    go : (j : ℕ) → stands (x ∷ xs) ≡ j → (d : ℕ) → stands (drop d (x ∷ xs)) ≡ suc n → Uncovered (as_run (divide (x ∷ xs) g)) (g + d) → UncoveredGiven k → Given (as_run (divide (x ∷ xs) g)) (g + d) (take (suc n) (drop d (x ∷ xs)))
    go zero e zero s u ih = absurd (omega arith)
    go zero e (suc d) s u ih =
        let z : suc g + d ≡ g + suc d = omega arith in
        rw (divide_gap x xs g e, ← z) (ih xs (suc g) d n (omega arith) s (rw (divide_gap x xs g e, ← z) at u))
    go (suc j) e zero s u ih =
        let w : n ≡ j = omega arith in
        rw (divide_message x xs g (suc j) e (omega arith)) (inl (add-zero g, ap (λ i. take (suc i) (x ∷ xs)) w))
    go (suc j) e (suc d) s u ih = rw (divide_message x xs g (suc j) e (omega arith)) (inr (past, rw (at_d, ← same) (ih R 0 (d - j) n (omega (arith, length-drop j xs)) (rw same s) onward)))
      where
        M : List ℕ
        M = take (suc j) (x ∷ xs)

        R : List ℕ
        R = drop (suc j) (x ∷ xs)

        M_long : length M ≡ suc j
        M_long = length-take-le (suc j) (x ∷ xs) (rw e at (stands_le (x ∷ xs)))

        u' : Uncovered (gave g M (as_run (divide R 0))) (g + suc d)
        u' = rw (divide_message x xs g (suc j) e (omega arith)) at u

        past : g + length M ≤ g + suc d
        past = u' g M (inl (refl, refl)) (omega arith)

        same : drop (d - j) R ≡ drop d xs
        same = let z : j + (d - j) ≡ d = omega (arith, past, M_long) in drop-drop (d - j) j xs ∙ ap (λ i. drop i xs) z

        at_d : g + suc d - (g + length M) ≡ 0 + (d - j)
        at_d = omega (arith, past, M_long)

        onward : Uncovered (as_run (divide R 0)) (0 + (d - j))
        onward q m h l =
            let z : q + (g + length M) - (g + length M) ≡ q = omega arith in
            omega (arith, past, M_long, u' (q + (g + length M)) m (inr (omega arith, rw z h)) (omega (arith, past, M_long)))

-- ---- by the message check
module _ (xs : List ℕ) (p : ℕ) where
  stands_checked : (n : ℕ) → stands (drop p xs) ≡ n → 0 < n → check_number (verdict (take n (drop p xs))) ≡ 0
  unfolding stands length_of
  stands_checked n = go (look (drop p xs)) refl
    where
      go : (l : Look) → look (drop p xs) ≡ l → length_of l ≡ n → 0 < n → check_number (verdict (take n (drop p xs))) ≡ 0
      go unsettled q e z = absurd (omega arith)
      go gap q e z = absurd (omega arith)
      go (message k) q e z = message_checked (drop p xs) n (q ∙ ap message e)

  valid_stands : (m : List ℕ) → Bytes xs → Valid xs p m → (stands (drop p xs) ≡ length m) × (0 < length m)
  unfolding stands length_of
  valid_stands m b v = (ap length_of there, omega (arith, some))
    where
      here : length m ≤ length (drop p xs)
      here = go (leb (length m) (length (drop p xs))) refl
        where
          go : (t : Bool) → leb (length m) (length (drop p xs)) ≡ t → length m ≤ length (drop p xs)
          go true e = leb-true _ _ e
          go false e = absurd (let l = leb-false (length m) (length (drop p xs)) e in omega (arith, l, ap length (v.stands ∙ take_all (length m) (drop p xs) (omega (arith, l)))))

      there : look (drop p xs) ≡ message (length m)
      there = checked_message (drop p xs) (length m) (λ i. rw (get_or-drop p xs i 0) (b (p + i))) here (rw (← v.stands) v.accepted)

      some : (15 ≤ length m) × (length m ≤ length (drop p xs))
      some = rw there at (look_fact (drop p xs))

-- ---- in a division of a whole recording
module _ (xs : List ℕ) (p : ℕ) where
  pub given_stands : (m : List ℕ) → Given (as_run (divide xs 0)) p m → (stands (drop p xs) ≡ length m) × (0 < length m) × (m ≡ part p (length m) xs)
  given_stands m h =
      let a = given_at (length xs) xs 0 p m (omega arith) h in
      let z : p - 0 ≡ p = omega arith in
      (ap (λ i. stands (drop i xs)) (sym z) ∙ a.long, a.some, a.bytes ∙ ap (λ i. part i (length m) xs) z)

  pub stands_given : (n : ℕ) → stands (drop p xs) ≡ n → 0 < n → Uncovered (as_run (divide xs 0)) p → Given (as_run (divide xs 0)) p (take n (drop p xs))
  stands_given zero e z u = absurd (omega arith)
  stands_given (suc n) e z u = rw (zero-add p) at (uncovered_given (length xs) xs 0 p n (omega arith) e (rw (zero-add p) u))

module _ (xs : List ℕ) (p : ℕ) (m : List ℕ) where
  pub valid_if_given : Given (as_run (divide xs 0)) p m → Valid xs p m × Uncovered (as_run (divide xs 0)) p
  valid_if_given h =
      let a = given_stands xs p m h in
      (record { stands = a.2; accepted = ap (λ r. check_number (verdict r)) a.2 ∙ stands_checked xs p (length m) a.0 a.1 }, λ q m' h' l. apart (as_run (divide xs 0)) p q m m' h h' l)

  pub given_if_valid : Bytes xs → Valid xs p m → Uncovered (as_run (divide xs 0)) p → Given (as_run (divide xs 0)) p m
  given_if_valid b v u = let s = valid_stands xs p m b v in rw v.stands (stands_given xs p (length m) s.0 s.1 u)
