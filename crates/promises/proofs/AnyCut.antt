-- A run of calls from a fresh state, over any pieces, gives the messages and gaps of the division of the uncut stream and its last gap; no call
-- is refused, and so many calls as pieces and messages, and one more, come to the end. Assumes nothing.
use Prim.Native.Nat.{ℕ, zero, suc, ◌+◌, ◌-◌, ◌≤◌, ◌<◌}
use mathlib.Core.Path.{◌≡◌, refl, ap, ap₂, ◌∙◌}
use mathlib.Core.Bool.{Bool, true, false}
use mathlib.Core.Logic.{⊎_elim}
use mathlib.Core.List.{List, [], ◌∷◌, ◌++◌, append-nil}
use native.Mathlib.Omega.{arith}
use lib.ListN.{length, take, drop, replicate, length-append, length-drop, length-replicate}
use lib.Seq.{take_at, length-take-le}
use Rattle.octets.specs.Parts.{over}
use Rattle.division.specs.Division.{divide}
use Rattle.division.specs.Work.{work_of}
use Rattle.promises.specs.Run.{Run, gave, as_run, count, Finished}
use Rattle.stream.specs.declared.State.{State}
use Rattle.stream.specs.Scan.{Scan, got, stop, scan}
use Rattle.stream.specs.Feed.{Fed, given, more, fed, feed, finish}
use Rattle.stream.specs.Reader.{room, limit, most_summed, fresh_state, laid, fed_call, feed_call, finished_call, finish_call}
use Rattle.promises.specs.Joined.{joined}
use Rattle.promises.specs.Calls.{Made, offer, after_feed, after_finish, calls}
use Rattle.stream.proofs.ScanLaws.{ScanFact, scan_fact, Passed}
use Rattle.stream.proofs.Cases.{Small, Bad, finish_cases, feed_cases}
use Rattle.promises.proofs.WorkBound.{work_at_most}
use Rattle.promises.proofs.WorkLeft.{FedWorks, feed_works, FinishWorks, finish_works}
use Rattle.promises.proofs.RunRight.{then_fed, then_finished, run, run_right, joined_offer}

-- ---- what a feed keeps: the bytes add up, and the held ones fit the window
abbrev Bound : Scan → ℕ → Type 0
Bound (got g n r) k = (g + length r ≡ k) × (n ≤ length r) × (15 ≤ n) × (length r ≤ room)
Bound (stop g r) k = (g + length r ≡ k) × (length r < room)

abbrev Kept : Fed → List ℕ → ℕ → Type 0
Kept (given g m h q) p k =
    (g + length m + length h + length q ≡ k + length p) × (length h ≤ room) × (length m ≤ room) × (length q ≤ length p) × (drop (length p - length q) p ≡ q)
Kept (more g h) p k = (g + length h ≡ k + length p) × (length h ≤ room)

scan_bound : (e : Bool) (xs : List ℕ) (g : ℕ) → length xs ≤ room → Bound (scan e xs g) (g + length xs)
scan_bound e xs g l = go (scan e xs g) (scan_fact e xs g)
  where
    left : (g' : ℕ) (r : List ℕ) → Passed xs g g' r → g' + length r ≡ g + length xs
    left g' r p = omega (arith, ap length p.leaves, length-drop p.bytes xs)

    go : (s : Scan) → ScanFact xs g s → Bound s (g + length xs)
    go (got g' n r) f = (left g' r f.0, f.2, f.1, omega (arith, left g' r f.0))
    go (stop g' r) f = (left g' r f.0, omega (arith, f.1))

given_kept : (g n : ℕ) (r q : List ℕ) (k : ℕ) → Bound (got g n r) k → Kept (given g (take n r) (drop n r) q) q k
given_kept g n r q k b =
    let t : length (take n r) ≡ n = length-take-le n r b.1 in
    let d : length (drop n r) ≡ length r - n = length-drop n r in
    let z : length q - length q ≡ 0 = omega arith in
    (omega arith, omega arith, omega arith, omega arith, rw z)

fed_kept : (p : List ℕ) (s : Scan) (k : ℕ) → Bound s k → Kept (fed p s) p k
unfolding fed
fed_kept [] (got g n r) k b = given_kept g n r [] k b
fed_kept [] (stop g r) k b = omega arith
fed_kept (c ∷ p) (got g n r) k b = given_kept g n r (c ∷ p) k b
fed_kept (c ∷ p) (stop g r) k b =
    let e : g + length (r ++ (c ∷ [])) ≡ suc k = omega (arith, length-append r (c ∷ [])) in
    one (fed p (scan false (r ++ (c ∷ [])) g)) (rw e at (fed_kept p (scan false (r ++ (c ∷ [])) g) _ (scan_bound false (r ++ (c ∷ [])) g (omega (arith, length-append r (c ∷ []))))))
  where
    one : (f : Fed) → Kept f p (suc k) → Kept f (c ∷ p) k
    one (given g m h q) f =
        let e : suc (length p) - length q ≡ suc (length p - length q) = omega arith in
        (omega arith, f.1, f.2, omega arith, rw e f.4)
    one (more g h) f = (omega arith, f.1)

-- ---- a call of such a run is not refused
record Safe (s : State) (w : List ℕ) : Type 0 where
  fits : s.held ≤ room
  sums : s.gap + s.held ≤ s.total
  below : s.total ≤ limit
  few : s.summed ≤ most_summed
  window : room ≤ length w

module _ (s : State) (w o : List ℕ) (h : Safe s w) (lo : room ≤ length o) where
  not_small : Small (length w) (length o) → ⊥
  not_small b = ⊎_elim (λ l. omega (arith, h.window)) (λ l. omega arith) b

  not_bad : Bad s → ⊥
  not_bad b = ⊎_elim (λ l. omega (arith, h.fits)) (λ c. ⊎_elim (λ l. omega (arith, h.below)) (λ d. ⊎_elim (λ l. omega (arith, h.few)) (λ l. omega (arith, h.sums)) d) c) b

  finish_goes : finish_call s w o ≡ finished_call s w o (finish (take s.held w) s.gap)
  finish_goes = finish_cases s w o (λ c. c ≡ finished_call s w o (finish (take s.held w) s.gap)) (λ b. absurd (not_small b)) (λ i j b. absurd (not_bad b)) (λ a. refl)

  feed_goes : (p : List ℕ) → s.ended ≡ 0 → s.total + length p ≤ limit → feed_call s p w o ≡ fed_call s w o p (feed (take s.held w) s.gap p)
  feed_goes p e l =
      feed_cases s w o (λ c. c ≡ fed_call s w o p (feed (take s.held w) s.gap p)) (λ b. absurd (not_small b)) (λ i j b. absurd (not_bad b)) p (λ a n. absurd (n e)) (λ a z m. absurd (omega arith)) (λ a z. refl)

-- ---- the window and the output after a call
take_laid : (h w : List ℕ) → take (length h) (laid h w) ≡ h
unfolding laid
take_laid h w = take_at h _ (length h) refl

length_laid : (h w : List ℕ) → length h ≤ length w → length (laid h w) ≡ length w
unfolding laid
length_laid h w l = omega (arith, length-append h (replicate (length w - length h) 0), length-replicate {A = ℕ} (length w - length h) 0)

take_over : (m o : List ℕ) → take (length m) (over m o) ≡ m
take_over m o = take_at m _ (length m) refl

-- ---- the run of calls is the run on lists
abbrev NotEnded : ℕ → List (List ℕ) → Type 0
NotEnded e [] = Unit
NotEnded e (p ∷ ps) = (e ≡ 0)

not_ended : (ps : List (List ℕ)) → NotEnded 0 ps
not_ended [] = tt
not_ended (p ∷ ps) = refl

-- all bytes summed once the bytes held and the pieces to come are divided
abbrev in_all : State → List ℕ → List (List ℕ) → ℕ
in_all s w ps = s.summed + work_of (take s.held w ++ joined ps)

module _ (outputs : ℕ → List ℕ) (large : (i : ℕ) → room ≤ length (outputs i)) where
  record Right (made : Made) (list : Run) (summed : ℕ) : Type 0 where
    run : made.run ≡ list
    sum : Finished made.run → made.state.summed ≡ summed

  abbrev CallsRight : ℕ → Type 0
  CallsRight n = (s : State) (w : List ℕ) (ps : List (List ℕ)) → Safe s w → NotEnded s.ended ps → s.total + length (joined ps) ≤ limit → in_all s w ps ≤ most_summed
      → Right (calls n outputs s w ps) (run n (take s.held w) s.gap ps) (in_all s w ps)

  module _ (s : State) (w : List ℕ) (h : Safe s w) where
    length_held : length (take s.held w) ≡ s.held
    length_held = length-take-le s.held w (omega arith)

    feed_kept : (p : List ℕ) → Kept (feed (take s.held w) s.gap p) p (s.gap + s.held)
    unfolding feed
    feed_kept p = rw length_held at (fed_kept p (scan false (take s.held w) s.gap) (s.gap + length (take s.held w)) (scan_bound false (take s.held w) s.gap (omega (arith, length_held))))

    finish_kept : Kept (finish (take s.held w) s.gap) [] (s.gap + s.held)
    unfolding finish
    finish_kept = rw length_held at (fed_kept [] (scan true (take s.held w) s.gap) (s.gap + length (take s.held w)) (scan_bound true (take s.held w) s.gap (omega (arith, length_held))))

  calls_run : (n : ℕ) → CallsRight n
  unfolding calls run after_feed after_finish then_fed then_finished joined
  calls_run zero s w ps h e l u = record { run = refl; sum = λ z. absurd z }
  calls_run (suc n) s w [] h e l u =
      let o = outputs n in
      rw (append-nil (take s.held w), finish_goes s w o h (large n)) (go (finish (take s.held w) s.gap) (finish_kept s w h) (finish_works (take s.held w) s.gap) (rw (append-nil (take s.held w)) at u) (calls_run n))
    where
      go : (f : Fed) → Kept f [] (s.gap + s.held) → FinishWorks (take s.held w) s.gap f → s.summed + work_of (take s.held w) ≤ most_summed → CallsRight n
          → Right (after_finish (calls n outputs) (finished_call s w (outputs n) f).answer (finished_call s w (outputs n) f)) (then_finished (run n) f) (s.summed + work_of (take s.held w))
      go (given g m r q) k d u ih =
          let after : State = (finished_call s w (outputs n) (given g m r q)).state in
          let left : work_of (take (length r) (laid r w) ++ []) ≡ work_of r = ap work_of (append-nil (take (length r) (laid r w)) ∙ take_laid r w) in
          let safe : Safe after (laid r w)
          = record { fits = k.1; sums = omega arith; below = omega arith; few = omega arith; window = omega (arith, length_laid r w (omega arith)) } in
          let i = ih after (laid r w) [] safe tt (omega arith) (omega (arith, left)) in
          record { run = rw take_over (ap (gave g m) (rw take_laid at i.run)); sum = λ z. omega (arith, i.sum z, left) }
      go (more g r) k d u ih = record { run = refl; sum = λ z. omega arith }
  calls_run (suc n) s w (p ∷ ps) h e l u =
      let o = outputs n in
      rw (feed_goes s w o h (large n) p e (omega (arith, length-append p (joined ps)))) (go (feed (take s.held w) s.gap p) (feed_kept s w h p) (feed_works (take s.held w) p (joined ps) s.gap) (calls_run n))
    where
      go : (f : Fed) → Kept f p (s.gap + s.held) → FedWorks (take s.held w) p (joined ps) s.gap f → CallsRight n
          → Right (after_feed (calls n outputs) p ps (fed_call s w (outputs n) p f).answer (fed_call s w (outputs n) p f)) (then_fed (run n) ps f) (s.summed + work_of (take s.held w ++ (p ++ joined ps)))
      go (given g m r q) k d ih =
          let after : State = (fed_call s w (outputs n) p (given g m r q)).state in
          let left : work_of (take (length r) (laid r w) ++ joined (offer q ps)) ≡ work_of (r ++ (q ++ joined ps)) = ap₂ (λ i j. work_of (i ++ j)) (take_laid r w) (joined_offer q ps) in
          let safe : Safe after (laid r w)
          = record { fits = k.1; sums = omega arith; below = omega (arith, length-append p (joined ps)); few = omega arith; window = omega (arith, length_laid r w (omega arith)) } in
          let i = ih after (laid r w) (offer q ps) safe (not_ended (offer q ps)) (omega (arith, length-append p (joined ps), length-append q (joined ps), ap length (joined_offer q ps))) (omega (arith, left)) in
          rw k.4 (record { run = rw take_over (ap (gave g m) (rw take_laid at i.run)); sum = λ z. omega (arith, i.sum z, left) })
      go (more g r) k d ih =
          let after : State = (fed_call s w (outputs n) p (more g r)).state in
          let left : work_of (take (length r) (laid r w) ++ joined ps) ≡ work_of (r ++ joined ps) = ap (λ i. work_of (i ++ joined ps)) (take_laid r w) in
          let safe : Safe after (laid r w)
          = record { fits = k.1; sums = omega arith; below = omega (arith, length-append p (joined ps)); few = omega arith; window = omega (arith, length_laid r w (omega arith)) } in
          let i = ih after (laid r w) ps safe (not_ended ps) (omega (arith, length-append p (joined ps))) (omega (arith, left)) in
          record { run = rw take_laid at i.run; sum = λ z. omega (arith, i.sum z, left) }

  module _ (ps : List (List ℕ)) (w : List ℕ) (window : room ≤ length w) (below : length (joined ps) ≤ limit) (n : ℕ) where
    from_fresh : Right (calls n outputs fresh_state w ps) (run n [] 0 ps) (0 + work_of (joined ps))
    from_fresh =
        calls_run n fresh_state w ps (record { fits = omega arith; sums = omega arith; below = omega arith; few = omega arith; window = window }) (not_ended ps) (omega arith)
        (omega (arith, work_at_most (joined ps)))

    pub calls_right : length ps + count (divide (joined ps) 0) + 1 ≤ n → (calls n outputs fresh_state w ps).run ≡ as_run (divide (joined ps) 0)
    calls_right c = from_fresh.run ∙ run_right n [] 0 ps (omega arith)

    pub calls_summed : Finished (calls n outputs fresh_state w ps).run → (calls n outputs fresh_state w ps).state.summed ≡ work_of (joined ps)
    calls_summed z = omega (arith, from_fresh.sum z)
