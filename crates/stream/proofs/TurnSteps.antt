-- Why a turn over the held bytes is right, and all the turns of a call. Assumes nothing.
use Prim.Native.Nat.{ℕ, min, ◌+◌, ◌-◌, ◌^◌, ◌≤◌, ◌<◌}
use mathlib.Core.Path.{◌≡◌, refl, sym, ap, ◌∙◌}
use mathlib.Core.Bool.{Bool, true, false}
use mathlib.Core.List.{List, [], ◌∷◌, ◌++◌, append-nil}
use native.Mathlib.Nat.{add-zero}
use native.Mathlib.Omega.{arith}
use lib.ListN.{length, take, drop, length-append, length-drop, take-append-drop}
use lib.Seq.{paste, length-take-le, drop-drop}
use mir.Syntax.{w64}
use mir.Val.{Fits}
use Rattle.octets.specs.Parts.{over}
use Rattle.front.specs.declared.Claim.{Claim}
use Rattle.front.specs.declared.Claim.TheVariants.{Nothing as NoClaim, AtLeast, Long}
use Rattle.front.specs.Claim.{claim}
use Rattle.front.specs.Look.{unsettled, look, need_by, need}
use Rattle.front.proofs.Bounds.{LookFact, look_fact, need_most}
use Rattle.front.proofs.Waiting.{look_wait}
use Rattle.division.specs.declared.Walked.{Walked}
use Rattle.division.specs.declared.Walked.TheVariants.{Message as AtMessage, Unsettled}
use Rattle.division.specs.Walk.{walk_of}
use Rattle.stream.specs.declared.Outcome.{Outcome}
use Rattle.stream.specs.declared.Outcome.TheVariants.{Message, Nothing}
use Rattle.stream.specs.Scan.{got, stop, scan}
use Rattle.stream.specs.Feed.{Fed, fed, feed, given, more}
use Rattle.stream.specs.Steps.{Pulled, Given, CameTo}
use Rattle.stream.proofs.ScanLaws.{scan_open_at, scan_empty_at}
use Rattle.stream.proofs.FeedLaws.{fed_bulk}
use Rattle.stream.proofs.WalkScan.{found_message, found_none}
use Rattle.stream.proofs.Reach.{FedMessage, fed_message, FedMore, fed_more}
use Rattle.stream.proofs.WindowSteps.{tail, part_long, copied_front, copied_same, middle, Gave, gave_held, gave_piece}

-- ---- what the first position needs
pub need_is : (s : List ℕ) (c : Claim) (n : ℕ) → claim s ≡ c → n ≡ need_by c → n ≡ need s
unfolding need
need_is s c n e h = rw e h

pub need_nothing : 0 ≡ need_by NoClaim
unfolding need_by
need_nothing = refl

pub need_at_least : (k : ℕ) → k ≡ need_by (AtLeast k)
unfolding need_by
need_at_least k = refl

pub need_long : (k : ℕ) → k ≡ need_by (Long k)
unfolding need_by
need_long k = refl

pub wanted_right : (s : List ℕ) (n piece r : ℕ) → n ≡ need s → length s < need s → r ≡ min piece (n - length s) → (length s + r ≤ need s) × (r ≤ piece) × (r ≡ 0 → piece ≡ 0)
wanted_right s n piece r e l h = (omega arith, omega arith, λ y. omega arith)

-- ---- a message, however it was found and handed over
pub came_given : (d : Fed) (p w₀ w o : List ℕ) (k n g t : ℕ) (xs : List ℕ) (l : ℕ) (w' o' : List ℕ) → d ≡ given g (take n (drop k xs)) (drop n (drop k xs)) (drop t p)
    → k + n ≤ length xs → t ≤ length p → length xs - (k + n) ≤ length w₀ → length w ≡ length w₀ → Gave k n xs w o l w' o' → Given d p w₀ o n g t l w' o'
came_given d p w₀ w o k n g t xs l w' o' e inside within room same v =
    record {
      message = take n (drop k xs);
      is = e ∙ ap (λ h. given g (take n (drop k xs)) h (drop t p)) (sym v.window);
      size = length-take-le n (drop k xs) (omega (arith, length-drop k xs));
      within = within;
      held = omega (arith, v.count);
      same = v.same ∙ same;
      output = v.output;
    }

-- ---- the piece divided in place, by where the walk over the rest of it stops
module _ (g t : ℕ) (p w o : List ℕ) (fits : (t ≤ length p) × (6136 ≤ length w) × (6136 ≤ length o) × (g + length p ≤ 2 ^ 49)) (r : Walked) (z : r ≡ walk_of false (take (length p - t) (drop t p)) 0 0) where
  rest_long : length (take (length p - t) (drop t p)) ≡ length p - t
  rest_long = ap length (tail p t) ∙ length-drop t p

  module _ (k n e : ℕ) (q : r ≡ AtMessage k n e) where
    found : FedMessage (take (length p - t) (drop t p)) k n e
    found = fed_message (take (length p - t) (drop t p)) r z k n e q

    pub place_end : k + n ≤ e
    place_end = found.inside

    pub place_message : k + n ≤ length (take (length p - t) (drop t p))
    place_message = omega (arith, found.inside, found.within)

    pub place_puts : length (take (k + n - k) (drop k (take (length p - t) (drop t p)))) ≤ length o
    place_puts = omega (arith, found.size, part_long k (k + n) (take (length p - t) (drop t p)) (omega arith) place_message)

    pub place_rest : (k + n ≤ e) × (e ≤ length (take (length p - t) (drop t p))) × (e - (k + n) ≤ length w)
    place_rest = (found.inside, found.within, omega (arith, found.held))

    pub place_keeps : length (take (e - (k + n)) (drop (k + n) (take (length p - t) (drop t p)))) ≤ length w
    place_keeps = omega (arith, place_rest.2, part_long (k + n) e (take (length p - t) (drop t p)) place_rest.0 place_rest.1)

    reaches : t + e ≤ length p
    reaches = omega (arith, found.within, rest_long)

    pub place_sums : Fits w64 (g + k) × Fits w64 (t + e) × Fits w64 (k + n)
    place_sums =
        (record { fits = omega (arith, reaches, found.inside) }, record { fits = omega (arith, reaches) }, record { fits = omega (arith, reaches, found.inside) })

    pub place_given : (w' o' : List ℕ) → o' ≡ over (take (k + n - k) (drop k (take (length p - t) (drop t p)))) o
        → w' ≡ over (take (e - (k + n)) (drop (k + n) (take (length p - t) (drop t p)))) w
        → Given (feed [] g (drop t p)) p w o n (g + k) (t + e) (e - (k + n)) w' o'
    place_given w' o' u v =
        let xs : List ℕ = take e (take (length p - t) (drop t p)) in
        let behind : drop e (take (length p - t) (drop t p)) ≡ drop (t + e) p = ap (drop e) (tail p t) ∙ drop-drop e t p in
        let d : feed [] g (drop t p) ≡ given (g + k) (take n (drop k xs)) (drop n (drop k xs)) (drop (t + e) p) =
        ap (feed [] g) (sym (tail p t)) ∙ found.feeds g ∙ ap (given (g + k) (take n (drop k xs)) (drop n (drop k xs))) behind in
        let long : length xs ≡ e = length-take-le e (take (length p - t) (drop t p)) found.within in
        let gave = gave_piece k n e (take (length p - t) (drop t p)) w o w' o' place_rest u v in
        came_given (feed [] g (drop t p)) p w w o k n (g + k) (t + e) xs (e - (k + n)) w' o' d (omega (arith, place_end)) reaches (omega (arith, found.held)) refl gave

  module _ (k : ℕ) (q : r ≡ Unsettled k) where
    open_at : FedMore (take (length p - t) (drop t p)) k
    open_at = fed_more (take (length p - t) (drop t p)) r z k q

    pub place_open : (k ≤ length (take (length p - t) (drop t p))) × (length (take (length p - t) (drop t p)) ≤ length (take (length p - t) (drop t p))) × (length (take (length p - t) (drop t p)) - k ≤ length w)
    place_open = (open_at.within, omega arith, omega (arith, open_at.held))

    pub place_holds : length (take (length (take (length p - t) (drop t p)) - k) (drop k (take (length p - t) (drop t p)))) ≤ length w
    place_holds = omega (arith, place_open.2, part_long k (length (take (length p - t) (drop t p))) (take (length p - t) (drop t p)) place_open.0 (omega arith))

    pub place_gap : Fits w64 (g + k)
    place_gap = record { fits = omega (arith, open_at.within, rest_long) }

    pub place_more : (w' : List ℕ) → w' ≡ over (take (length (take (length p - t) (drop t p)) - k) (drop k (take (length p - t) (drop t p)))) w
        → CameTo (feed [] g (drop t p)) p w o (Nothing (g + k) (length p) (length (take (length p - t) (drop t p)) - k)) w' o
    place_more w' v =
        let xs : List ℕ = take (length p - t) (drop t p) in
        let kept : take (length xs - k) w' ≡ drop k xs = copied_front k (length xs) xs w w' place_open v ∙ tail xs k in
        (ap (feed [] g) (sym (tail p t)) ∙ open_at.feeds g ∙ ap (more (g + k)) (sym kept), refl, place_open.2, copied_same k (length xs) xs w w' place_open v, refl)

-- ---- turn after turn
pub record Filling (e : Bool) (h₀ g₀ : ℕ) (w₀ o₀ p : List ℕ) (h g t : ℕ) (w o : List ℕ) : Type 0 where
  pub within : t ≤ length p
  pub room : h ≤ 6136
  pub same : length w ≡ length w₀
  pub sums : g + h ≡ g₀ + h₀ + t
  pub feeds : fed p (scan e (take h₀ w₀) g₀) ≡ fed (drop t p) (scan e (take h w) g)
  pub output : o ≡ o₀
  pub same_output : length o ≡ length o₀

pub filling_begins : (e : Bool) (h₀ g₀ : ℕ) (w₀ o₀ p : List ℕ) → h₀ ≤ 6136 → Filling e h₀ g₀ w₀ o₀ p h₀ g₀ 0 w₀ o₀
filling_begins e h₀ g₀ w₀ o₀ p l = record { within = omega arith; room = l; same = refl; sums = omega arith; feeds = refl; output = refl; same_output = refl }

fed_got : (p : List ℕ) (g n : ℕ) (r : List ℕ) → fed p (got g n r) ≡ given g (take n r) (drop n r) p
unfolding fed
fed_got [] g n r = refl
fed_got (b ∷ p) g n r = refl

fed_nil : (g : ℕ) (r : List ℕ) → fed [] (stop g r) ≡ more g r
unfolding fed
fed_nil g r = refl

fed_none : (p : List ℕ) (g : ℕ) → fed p (stop g []) ≡ feed [] g p
unfolding feed scan
fed_none p g = refl

pub none : (p : List ℕ) → length p ≡ 0 → p ≡ []
none [] e = refl
none (x ∷ p) e = absurd (omega arith)

-- where bytes are left the position is open, and the stream not at its end
open_left : (e : Bool) (xs : List ℕ) (g g' : ℕ) (r : List ℕ) → scan e xs g ≡ stop g' r → (length r ≡ 0 → ⊥) → (e ≡ false) × (length r < need r)
open_left true xs g g' r q n = let z : r ≡ [] = rw q at (scan_empty_at xs g) in absurd (n (ap length z))
open_left false xs g g' r q n =
    let s : look r ≡ unsettled = rw q at (scan_open_at xs g) in
    let f : LookFact r unsettled = rw s at (look_fact r) in
    (refl, omega arith)

-- what a call comes to does not depend on the window's bytes past the held ones
same_came : (d d' : Fed) (p w w₀ o o₀ : List ℕ) (x : Outcome) (w' o' : List ℕ) → d' ≡ d → length w ≡ length w₀ → o ≡ o₀ → CameTo d p w o x w' o' → CameTo d' p w₀ o₀ x w' o'
same_came d d' p w w₀ o o₀ (Message n g t h) w' o' e s i c =
    record { message = c.message; is = e ∙ c.is; size = c.size; within = c.within; held = omega (arith, c.held); same = c.same ∙ s; output = c.output ∙ ap (over c.message) i }
same_came d d' p w w₀ o o₀ (Nothing g t h) w' o' e s i c = (e ∙ c.0, c.1, omega arith, c.3 ∙ s, c.4 ∙ i)

module _ (e : Bool) (h₀ g₀ : ℕ) (w₀ o₀ p : List ℕ) (h g t : ℕ) (w o : List ℕ) (f : Filling e h₀ g₀ w₀ o₀ p h g t w o) (fits : (h₀ ≤ 6136) × (6136 ≤ length w₀) × (6136 ≤ length o₀) × (g₀ + h₀ + length p ≤ 2 ^ 48)) where
  pub filling_held : h ≤ length w
  filling_held = omega (arith, f.same, f.room)

  module _ (r : Walked) (z : r ≡ walk_of e (take h w) 0 0) where
    pub length_held : length (take h w) ≡ h
    length_held = length-take-le h w filling_held

    abbrev Come : Fed
    Come = fed p (scan e (take h₀ w₀) g₀)

    module _ (k n u : ℕ) (q : r ≡ AtMessage k n u) where
      pub turn_inside : k + n ≤ h
      turn_inside = let m = found_message e (take h w) r z k n u q in omega (arith, m.counted, m.within, length_held)

      pub turn_hands : (k + n ≤ h) × (h ≤ length w) × (h < 2 ^ 64) × (n ≤ length o)
      turn_hands = (turn_inside, filling_held, omega (arith, f.room), omega (arith, turn_inside, f.room, f.same_output))

      pub turn_message_gap : Fits w64 (g + k)
      turn_message_gap = record { fits = omega (arith, turn_inside, f.sums, f.within) }

      pub gives : scan e (take h w) g ≡ got (g + k) n (drop k (take h w))
      gives = let m = found_message e (take h w) r z k n u q in let y : m.ahead ≡ k = omega (arith, m.counted) in m.is g ∙ rw y

      pub turn_given : (l : ℕ) (w' o' : List ℕ) → (l ≡ h - (k + n)) × (o' ≡ over (take n (drop k w)) o) × (w' ≡ paste w 0 (drop (k + n) w) (h - (k + n))) → CameTo Come p w₀ o₀ (Message n (g + k) t l) w' o'
      turn_given l w' o' a =
          let z : n ≡ k + n - k = omega arith in
          let v = gave_held k n h w o o' w' turn_inside filling_held (a.1 ∙ ap (λ i. over (take i (drop k w)) o) z) a.2 in
          rw a.0
          (same_came Come Come p w₀ w₀ o o₀ (Message n (g + k) t (h - (k + n))) w' o' refl refl f.output
          (came_given Come p w₀ w o k n (g + k) t (take h w) (h - (k + n)) w' o' (f.feeds ∙ ap (fed (drop t p)) gives ∙ fed_got _ _ _ _) (omega (arith, turn_inside, length_held)) f.within (omega (arith, length_held, f.room)) f.same v))

    module _ (k : ℕ) (q : r ≡ Unsettled k) where
      pub stops : scan e (take h w) g ≡ stop (g + k) (drop k (take h w))
      stops = let m = found_none e (take h w) r z k q in let y : m.ahead ≡ k = omega (arith, m.counted) in m.is g ∙ rw y

      pub turn_within : k ≤ h
      turn_within = let m = found_none e (take h w) r z k q in omega (arith, m.counted, m.within, length_held)

      pub turn_gap : Fits w64 (g + k)
      turn_gap = record { fits = omega (arith, turn_within, f.sums, f.within) }

      pub turn_place_fits : (t ≤ length p) × (6136 ≤ length w) × (6136 ≤ length o) × (g + k + length p ≤ 2 ^ 49)
      turn_place_fits = (f.within, omega (arith, f.same), omega (arith, f.same_output), omega (arith, turn_within, f.sums, f.within))

      pub length_left : length (drop k (take h w)) ≡ h - k
      length_left = omega (arith, length-drop k (take h w), length_held)

      pub turn_place : h - k ≡ 0 → (x : Outcome) (w' o' : List ℕ) → CameTo (feed [] (g + k) (drop t p)) p w o x w' o' → CameTo Come p w₀ o₀ x w' o'
      turn_place n x w' o' c =
          let d : Come ≡ feed [] (g + k) (drop t p) = f.feeds ∙ ap (fed (drop t p)) (stops ∙ ap (stop (g + k)) (none (drop k (take h w)) (length_left ∙ n))) ∙ fed_none (drop t p) (g + k) in
          same_came (feed [] (g + k) (drop t p)) Come p w w₀ o o₀ x w' o' d f.same f.output c

      module _ (n : h - k ≡ 0 → ⊥) where
        opened : (e ≡ false) × (length (drop k (take h w)) < need (drop k (take h w)))
        opened = open_left e (take h w) g (g + k) (drop k (take h w)) stops (λ y. n (sym length_left ∙ y))

        wants : h - k < need (take (h - k) (drop k w))
        wants = rw (← middle k h w turn_within) (omega (arith, opened.1, length_left))

        pub turn_pull_fits : (k + (h - k) ≤ length w) × (6136 ≤ length w) × (h - k < need (take (h - k) (drop k w))) × (t ≤ length p)
        turn_pull_fits = (omega (arith, turn_within, filling_held), omega (arith, f.same), wants, f.within)

        module _ (c : ℕ) (w' : List ℕ) (v : Pulled (h - k) (take (h - k) (drop k w)) w (drop t p) c w') where
          pub on : Pulled (h - k) (drop k (take h w)) w (drop t p) c w'
          on = rw (middle k h w turn_within) v

          pub turn_more : c ≡ 0 → CameTo Come p w₀ o₀ (Nothing (g + k) t (h - k)) w' o
          turn_more y =
              let u : drop t p ≡ [] = none (drop t p) (on.all y) in
              let b : take (h - k) w' ≡ drop k (take h w) = rw (y, add-zero (h - k)) at on.bytes ∙ append-nil (drop k (take h w)) in
              (f.feeds ∙ ap (fed (drop t p)) stops ∙ rw u (fed_nil _ _) ∙ ap (more (g + k)) (sym b), omega (arith, length-drop t p, ap length u, f.within), omega (arith, f.room), on.same ∙ f.same, f.output)

          pub turn_on : (c ≡ 0 → ⊥) → Filling e h₀ g₀ w₀ o₀ p (h - k + c) (g + k) (t + c) w' o
          turn_on y =
              let a : length (take c (drop t p)) ≡ c = length-take-le c (drop t p) on.within in
              let m : drop k (take h w) ++ take c (drop t p) ≡ take (h - k + c) w' = sym on.bytes in
              let b : fed (take c (drop t p) ++ drop c (drop t p)) (stop (g + k) (drop k (take h w))) ≡ fed (drop c (drop t p)) (scan false (drop k (take h w) ++ take c (drop t p)) (g + k)) =
              fed_bulk (take c (drop t p)) (drop c (drop t p)) (drop k (take h w)) (g + k) (need (drop k (take h w))) (look_wait (drop k (take h w))) (omega (arith, y)) (omega (arith, length-append (drop k (take h w)) (take c (drop t p)), length_left, on.fewest)) in
              record {
                within = omega (arith, on.within, length-drop t p, f.within);
                room = omega (arith, on.fewest, need_most (drop k (take h w)));
                same = on.same ∙ f.same;
                sums = omega (arith, f.sums, turn_within);
                feeds = f.feeds ∙ ap (fed (drop t p)) stops ∙ rw take-append-drop at b ∙ rw (m, opened.0, drop-drop c t p);
                output = f.output;
                same_output = f.same_output;
              }

-- ---- the bytes held alone, with none to come
module _ (held gap : ℕ) (w o : List ℕ) (r : Walked) (z : r ≡ walk_of true (take held w) 0 0) where
  module _ (l : held ≤ length w) (k : ℕ) (q : r ≡ Unsettled k) where
    pub end_within : k ≤ held
    end_within = let m = found_none true (take held w) r z k q in omega (arith, m.counted, m.within, length-take-le held w l)

    pub ends_with_none : CameTo (fed [] (scan true (take held w) gap)) [] w o (Nothing (gap + k) 0 (held - k)) w o
    ends_with_none =
        let m = found_none true (take held w) r z k q in
        let y : m.ahead ≡ k = omega (arith, m.counted) in
        let s : scan true (take held w) gap ≡ stop (gap + k) (drop k (take held w)) = m.is gap ∙ rw y in
        let n : drop k (take held w) ≡ [] = rw s at (scan_empty_at (take held w) gap) in
        let x : held - k ≡ 0 = omega (arith, ap length n, length-drop k (take held w), length-take-le held w l) in
        rw x (ap (fed []) (s ∙ ap (stop (gap + k)) n) ∙ fed_nil (gap + k) [], refl, omega arith, refl, refl)
