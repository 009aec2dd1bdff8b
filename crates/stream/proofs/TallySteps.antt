-- The bytes run through the checksum, added up turn by turn: each position that a call settles is tested once. Assumes nothing.
use Prim.Native.Nat.{ℕ, suc, ◌+◌, ◌-◌, ◌*◌, ◌%◌, ◌^◌, ◌≤◌, ◌<◌}
use mathlib.Core.Path.{◌≡◌, refl, sym, ap, ◌∙◌}
use mathlib.Core.Bool.{Bool, true, false}
use mathlib.Core.List.{List, [], ◌++◌, append_assoc}
use native.Mathlib.Nat.{zero-add}
use native.Mathlib.Omega.{arith}
use lib.ListN.{length, take, drop, length-append, length-drop, take-append-drop}
use lib.Seq.{paste, drop-drop, drop-append-le, length-take-le}
use mir.Syntax.{w64}
use mir.Val.{Fits}
use Rattle.octets.specs.Parts.{over}
use Rattle.division.specs.declared.Passage.{Passage}
use Rattle.division.specs.declared.Walked.{Walked}
use Rattle.division.specs.declared.Walked.TheVariants.{Message as AtMessage, Unsettled}
use Rattle.division.specs.Walk.{walk_of, settled, whole_walk}
use Rattle.division.specs.Work.{tested_in}
use Rattle.division.proofs.TestedSteps.{tested_split, tested_most_in}
use Rattle.stream.specs.declared.Outcome.{Outcome}
use Rattle.stream.specs.declared.Outcome.TheVariants.{Message, Nothing}
use Rattle.stream.specs.Scan.{got, stop, scan}
use Rattle.stream.specs.Feed.{fed}
use Rattle.stream.specs.Steps.{Pulled, CameTo, settled_in, Tested}
use Rattle.stream.proofs.ScanLaws.{TestedStays, tested_stays}
use Rattle.stream.proofs.WindowSteps.{tail}
use Rattle.stream.proofs.TurnSteps.{Filling, filling_begins, filling_held, turn_hands, turn_message_gap, turn_given, gives, stops, turn_within, turn_gap, length_left, on, none}

-- ---- what a walk has run through the checksum, where 64 bits hold its number
module _ (e : Bool) (xs : List ℕ) (r : Passage) (z : r ≡ whole_walk e xs) (fits : 6131 * length xs < 2 ^ 64) where
  walk_tested : (w : Walked) → r.walked ≡ w → r.summed ≡ tested_in (settled w) xs
  walk_tested w q =
      let y : r.summed ≡ tested_in (settled r.walked) xs % 2 ^ 64 = ap (λ i. i.summed) z ∙ ap (λ i. tested_in (settled i) xs % 2 ^ 64) (sym (ap (λ i. i.walked) z)) in
      omega (arith, y, ap (λ i. tested_in (settled i) xs) q, tested_most_in (settled w) xs)

  walk_most : r.summed ≤ 6131 * length xs
  walk_most = omega (arith, walk_tested r.walked refl, tested_most_in (settled r.walked) xs)

-- ---- up to here: g gap bytes, n bytes summed and the bytes xs to come, after g₀ gap bytes with xs₀ to come
pub record Tallied (g₀ : ℕ) (xs₀ : List ℕ) (g n : ℕ) (xs : List ℕ) : Type 0 where
  pub from_on : g₀ ≤ g
  pub left : xs ≡ drop (g - g₀) xs₀
  pub sum : n ≡ tested_in (g - g₀) xs₀

pub tallied_begins : (g : ℕ) (xs : List ℕ) → Tallied g xs g 0 xs
unfolding tested_in
tallied_begins g xs = let z : g - g ≡ 0 = omega arith in record { from_on = omega arith; left = rw z; sum = rw z }

module _ (g₀ : ℕ) (xs₀ : List ℕ) (g n : ℕ) (xs : List ℕ) (c : Tallied g₀ xs₀ g n xs) where
  further_on : (k k₀ u : ℕ) → k₀ ≡ g - g₀ + k → u ≡ tested_in k xs → n + u ≡ tested_in k₀ xs₀
  further_on k k₀ u e h =
      let z : tested_in k₀ xs₀ ≡ tested_in (g - g₀) xs₀ + tested_in k xs = ap (λ i. tested_in i xs₀) e ∙ tested_split (g - g₀) k xs₀ ∙ ap (λ i. tested_in (g - g₀) xs₀ + tested_in k i) (sym c.left) in
      omega (arith, c.sum)

  tallied_on : (k u : ℕ) (ys : List ℕ) → u ≡ tested_in k xs → ys ≡ drop k xs → Tallied g₀ xs₀ (g + k) (n + u) ys
  tallied_on k u ys h q =
      let z : g + k - g₀ ≡ g - g₀ + k = omega (arith, c.from_on) in
      record {
        from_on = omega (arith, c.from_on);
        left = q ∙ ap (drop k) c.left ∙ drop-drop k (g - g₀) xs₀ ∙ ap (λ i. drop i xs₀) (sym z);
        sum = further_on k (g + k - g₀) u z h;
      }

  tallied_tested : (x : Outcome) (u : ℕ) → Tested g xs x u → Tested g₀ xs₀ x (n + u)
  tallied_tested (Message m g' t h) u d =
      record { from_on = omega (arith, c.from_on, d.from_on); sum = further_on (suc (g' - g)) (suc (g' - g₀)) u (omega (arith, c.from_on, d.from_on)) d.sum }
  tallied_tested (Nothing g' t h) u d =
      record { from_on = omega (arith, c.from_on, d.from_on); sum = further_on (g' - g) (g' - g₀) u (omega (arith, c.from_on, d.from_on)) d.sum }

-- ---- the piece divided in place
module _ (g t : ℕ) (p : List ℕ) (fits : (t ≤ length p) × (g + length p ≤ 2 ^ 49)) (r : Passage) (z : r ≡ whole_walk false (take (length p - t) (drop t p))) where
  place : (w : Walked) → r.walked ≡ w → r.summed ≡ tested_in (settled w) (drop t p)
  place w q =
      walk_tested false (take (length p - t) (drop t p)) r z (omega (arith, ap length (tail p t), length-drop t p)) w q ∙ ap (tested_in (settled w)) (tail p t)

  pub place_tested : (k n e : ℕ) → r.walked ≡ AtMessage k n e → (t' h : ℕ) → Tested g (drop t p) (Message n (g + k) t' h) r.summed
  place_tested k n e q t' h = let y : g + k - g ≡ k = omega arith in record { from_on = omega arith; sum = rw y (place (AtMessage k n e) q) }

  pub place_passed : (k : ℕ) → r.walked ≡ Unsettled k → (t' h : ℕ) → Tested g (drop t p) (Nothing (g + k) t' h) r.summed
  place_passed k q t' h = let y : g + k - g ≡ k = omega arith in record { from_on = omega arith; sum = rw y (place (Unsettled k) q) }

-- ---- a turn
pub never : (p : List ℕ) → false ≡ true → length p ≡ 0
never p z = absurd (let y : ◌≡◌ {A = ℕ} 0 1 = cc in omega arith)

module _ (e : Bool) (h₀ g₀ : ℕ) (w₀ o₀ p : List ℕ) (h g t : ℕ) (w o : List ℕ) (f : Filling e h₀ g₀ w₀ o₀ p h g t w o) (fits : (h₀ ≤ 6136) × (6136 ≤ length w₀) × (6136 ≤ length o₀) × (g₀ + h₀ + length p ≤ 2 ^ 48))
    (ends : e ≡ true → length p ≡ 0) (n : ℕ) (c : Tallied g₀ (take h₀ w₀ ++ p) g n (take h w ++ drop t p)) (r : Passage) (z : r ≡ whole_walk e (take h w)) where
  at : r.walked ≡ walk_of e (take h w) 0 0
  at = ap (λ i. i.walked) z

  long : length (take h w) ≡ h
  long = length-take-le h w (filling_held e h₀ g₀ w₀ o₀ p h g t w o f fits)

  small : 6131 * length (take h w) < 2 ^ 64
  small = omega (arith, long, f.room)

  begun : length (take h₀ w₀ ++ p) ≡ h₀ + length p
  begun = omega (arith, length-append (take h₀ w₀) p, length-take-le h₀ w₀ (omega (arith, fits.0, fits.1)))

  sums : n + r.summed ≤ 2 ^ 62
  sums = omega (arith, c.sum, tested_most_in (g - g₀) (take h₀ w₀ ++ p), begun, walk_most e (take h w) r z small, long, f.room, fits.0, fits.3)

  pub turn_adds : Fits w64 (n + r.summed)
  turn_adds = record { fits = omega (arith, sums) }

  no_more : e ≡ true → drop t p ≡ []
  no_more y = none (drop t p) (omega (arith, ends y, length-drop t p))

  pub turn_tested : (k m u : ℕ) → r.walked ≡ AtMessage k m u → (h' : ℕ) → Tested g₀ (take h₀ w₀ ++ p) (Message m (g + k) t h') (n + r.summed)
  turn_tested k m u q h' =
      let s : TestedStays (take h w) (drop t p) g (got (g + k) m (drop k (take h w))) = rw (gives e h₀ g₀ w₀ o₀ p h g t w o f fits r.walked at k m u q) at (tested_stays e (take h w) (drop t p) g no_more) in
      let y : g + k - g ≡ k = omega arith in
      let v : tested_in (suc k) (take h w ++ drop t p) ≡ tested_in (suc k) (take h w) = rw y at s.1 in
      tallied_tested g₀ (take h₀ w₀ ++ p) g n (take h w ++ drop t p) c (Message m (g + k) t h') r.summed
      (record { from_on = omega arith; sum = rw y (walk_tested e (take h w) r z small (AtMessage k m u) q ∙ sym v) })

  module _ (k : ℕ) (q : r.walked ≡ Unsettled k) where
    tallied : Tallied g₀ (take h₀ w₀ ++ p) (g + k) (n + r.summed) (drop k (take h w) ++ drop t p)
    tallied =
        let s : TestedStays (take h w) (drop t p) g (stop (g + k) (drop k (take h w))) = rw (stops e h₀ g₀ w₀ o₀ p h g t w o f fits r.walked at k q) at (tested_stays e (take h w) (drop t p) g no_more) in
        let y : g + k - g ≡ k = omega arith in
        let v : tested_in k (take h w ++ drop t p) ≡ tested_in k (take h w) = rw y at s.1 in
        tallied_on g₀ (take h₀ w₀ ++ p) g n (take h w ++ drop t p) c k r.summed (drop k (take h w) ++ drop t p)
        (walk_tested e (take h w) r z small (Unsettled k) q ∙ sym v) (sym (drop-append-le k (take h w) (drop t p) (omega (arith, long, turn_within e h₀ g₀ w₀ o₀ p h g t w o f fits r.walked at k q))))

    pub turn_more_tested : (t' h' : ℕ) → Tested g₀ (take h₀ w₀ ++ p) (Nothing (g + k) t' h') (n + r.summed)
    turn_more_tested t' h' = record { from_on = tallied.from_on; sum = tallied.sum }

    module _ (x : Outcome) (u : ℕ) (d : Tested (g + k) (drop t p) x u) where
      pub turn_place_adds : Fits w64 (n + r.summed + u)
      turn_place_adds = record { fits = omega (arith, sums, d.sum, tested_most_in (settled_in (g + k) x) (drop t p), length-drop t p, fits.3) }

      pub turn_place_tested : h - k ≡ 0 → Tested g₀ (take h₀ w₀ ++ p) x (n + r.summed + u)
      turn_place_tested y =
          let v : drop k (take h w) ≡ [] = none (drop k (take h w)) (length_left e h₀ g₀ w₀ o₀ p h g t w o f fits r.walked at k q ∙ y) in
          tallied_tested g₀ (take h₀ w₀ ++ p) (g + k) (n + r.summed) (drop t p) (rw v at tallied) x u d

    pub turn_on_tallied : (y : h - k ≡ 0 → ⊥) (d : ℕ) (w' : List ℕ) → Pulled (h - k) (take (h - k) (drop k w)) w (drop t p) d w' → Tallied g₀ (take h₀ w₀ ++ p) (g + k) (n + r.summed) (take (h - k + d) w' ++ drop (t + d) p)
    turn_on_tallied y d w' v =
        let a = on e h₀ g₀ w₀ o₀ p h g t w o f fits r.walked at k q y d w' v in
        let b : take (h - k + d) w' ++ drop (t + d) p ≡ drop k (take h w) ++ drop t p =
        ap (λ i. i ++ drop (t + d) p) a.bytes ∙ ap (λ i. drop k (take h w) ++ take d (drop t p) ++ i) (sym (drop-drop d t p)) ∙ append_assoc (drop k (take h w)) (take d (drop t p)) (drop d (drop t p)) ∙ ap (λ i. drop k (take h w) ++ i) (take-append-drop d (drop t p)) in
        record { from_on = tallied.from_on; left = b ∙ tallied.left; sum = tallied.sum }

-- ---- the bytes held alone, with none to come
module _ (held gap : ℕ) (w o : List ℕ) (fits : (held ≤ 6136) × (6136 ≤ length w) × (6136 ≤ length o) × (gap + held + 0 ≤ 2 ^ 48)) (r : Passage) (z : r ≡ whole_walk true (take held w)) where
  begins : Filling true held gap w o [] held gap 0 w o
  begins = filling_begins true held gap w o [] fits.0

  at_end : r.walked ≡ walk_of true (take held w) 0 0
  at_end = ap (λ i. i.walked) z

  module _ (k n u : ℕ) (q : r.walked ≡ AtMessage k n u) where
    pub end_hands : (k + n ≤ held) × (held ≤ length w) × (held < 2 ^ 64) × (n ≤ length o)
    end_hands = turn_hands true held gap w o [] held gap 0 w o begins fits r.walked at_end k n u q

    pub end_message_gap : Fits w64 (gap + k)
    end_message_gap = turn_message_gap true held gap w o [] held gap 0 w o begins fits r.walked at_end k n u q

    pub end_given : (l : ℕ) (w' o' : List ℕ) → (l ≡ held - (k + n)) × (o' ≡ over (take n (drop k w)) o) × (w' ≡ paste w 0 (drop (k + n) w) (held - (k + n)))
        → CameTo (fed [] (scan true (take held w) gap)) [] w o (Message n (gap + k) 0 l) w' o'
    end_given l w' o' a = turn_given true held gap w o [] held gap 0 w o begins fits r.walked at_end k n u q l w' o' a

  pub end_gap : (k : ℕ) → r.walked ≡ Unsettled k → Fits w64 (gap + k)
  end_gap k q = turn_gap true held gap w o [] held gap 0 w o begins fits r.walked at_end k q

  pub end_tested : (k m u : ℕ) → r.walked ≡ AtMessage k m u → (h' : ℕ) → Tested gap (take held w ++ []) (Message m (gap + k) 0 h') r.summed
  end_tested k m u q h' = rw zero-add at (turn_tested true held gap w o [] held gap 0 w o begins fits (λ x. refl) 0 (tallied_begins gap (take held w ++ [])) r z k m u q h')

  pub end_passed : (k : ℕ) → r.walked ≡ Unsettled k → (h' : ℕ) → Tested gap (take held w ++ []) (Nothing (gap + k) 0 h') r.summed
  end_passed k q h' = rw zero-add at (turn_more_tested true held gap w o [] held gap 0 w o begins fits (λ x. refl) 0 (tallied_begins gap (take held w ++ [])) r z k q 0 h')
