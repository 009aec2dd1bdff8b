-- With nothing held, where a walk over a piece stops is what a feed of it comes to, and the bytes that settled it are the fewest that do.
-- Assumes nothing.
use Prim.Native.Nat.{ℕ, zero, suc, ◌+◌, ◌-◌, ◌≤◌, ◌<◌}
use mathlib.Core.Path.{◌≡◌, refl, sym, ap, ◌∙◌}
use mathlib.Core.Logic.{◌⊎◌, inl, inr, ⊎_elim}
use mathlib.Core.Bool.{Bool, true, false, cond}
use mathlib.Core.List.{List, [], ◌∷◌, ◌++◌}
use native.Mathlib.Nat.{add-zero, add-suc, suc-add}
use native.Mathlib.Numerals.{add-one}
use native.Mathlib.Omega.{arith}
use lib.ListN.{length, get_or, take, drop, length-append, length-drop, take-append-drop, drop_of_length-le}
use lib.Seq.{length-take-le, take-append-le, drop-append-le, drop-cons}
use lib.Dec.{ltb, leb}
use borrow.Author.Tests.{ltb-true, ltb-false, le-leb, lt-leb, leb-true}
use Rattle.macm.specs.Check.{agrees}
use Rattle.front.specs.declared.Claim.{Claim}
use Rattle.front.specs.declared.Claim.TheVariants.{Nothing, AtLeast, Long}
use Rattle.front.specs.Claim.{claim}
use Rattle.front.specs.Look.{Look, unsettled, gap, message, judged, look_by, look}
use Rattle.front.proofs.Settled.{keep_claim, claim_append}
use Rattle.front.proofs.Bounds.{ClaimFact, claim_fact, LookFact, look_fact, need_most}
use Rattle.division.specs.declared.Walked.{Walked}
use Rattle.division.specs.declared.Walked.TheVariants.{Message, Unsettled}
use Rattle.division.specs.Walk.{further, wanting, walked_by, walk_of}
use Rattle.division.proofs.DivideSteps.{look_nil}
use Rattle.division.proofs.WalkSteps.{walk_at}
use Rattle.stream.specs.Scan.{settle, seen, Scan, got, stop, scanned, scan}
use Rattle.stream.specs.Feed.{Fed, given, more, feed}
use Rattle.stream.proofs.ScanLaws.{scan_append, ScanFact, scan_fact}
use Rattle.stream.proofs.FeedLaws.{scan_open, settled, FedFact, feed_fewest}

-- ---- what a walk over the piece p says of a feed of it
pub record FedMessage (p : List ℕ) (k n t : ℕ) : Type 0 where
  pub inside : k + n ≤ t
  pub within : t ≤ length p
  pub long : 15 ≤ n
  pub size : n ≤ 6136
  pub held : t - (k + n) ≤ 6136
  pub feeds : (g : ℕ) → feed [] g p ≡ given (g + k) (take n (drop k (take t p))) (drop n (drop k (take t p))) (drop t p)

pub record FedMore (p : List ℕ) (k : ℕ) : Type 0 where
  pub within : k ≤ length p
  pub held : length p - k ≤ 6136
  pub feeds : (g : ℕ) → feed [] g p ≡ more (g + k) (drop k p)

abbrev pub FedAs : List ℕ → Walked → Type 0
FedAs p (Message k n t) = FedMessage p k n t
FedAs p (Unsettled k) = FedMore p k

-- ---- how far it has come: every position before index k is a settled gap byte, and t bytes of the piece are needed to say so
record Reached (p : List ℕ) (k t : ℕ) : Type 0 where
  within : k ≤ length p
  upto : t ≤ length p
  near : t ≤ k + 6136
  -- with the whole piece the scan comes to k
  all : (g : ℕ) → scan false p g ≡ scan false (drop k p) (g + k)
  -- and with t bytes of it, if they hold the shortest message from k on
  part : (g j : ℕ) → t ≤ j → k + 15 ≤ j → j ≤ length p → scan false (take j p) g ≡ scan false (drop k (take j p)) (g + k)
  -- and with fewer no message is settled
  late : (g j : ℕ) → j < t → settled (scan false (take j p) g) ≡ false

-- ---- a feed with nothing held, by the fewest bytes that settle a message
module _ (p : List ℕ) (g : ℕ) where
  fewest_is : (t g' n : ℕ) (r : List ℕ) → t ≤ length p → scan false (take t p) g ≡ got g' n r → ((j : ℕ) → j < t → settled (scan false (take j p) g) ≡ false)
      → feed [] g p ≡ given g' (take n r) (drop n r) (drop t p)
  fewest_is t g' n r l e late = go (feed [] g p) (feed_fewest p [] g)
    where
      whole : scan false p g ≡ got g' n (r ++ drop t p)
      whole = ap (λ s. scan false s g) (sym (take-append-drop t p)) ∙ scan_append (take t p) (drop t p) g ∙ rw e

      clash : true ≡ false → ⊥
      clash z = let y : ◌≡◌ {A = ℕ} 0 1 = cc in omega arith

      go : (f : Fed) → FedFact [] g p f → f ≡ given g' (take n r) (drop n r) (drop t p)
      go (given g'' m h q) f = test (ltb f.taken t) refl (ltb t f.taken) refl
        where
          test : (a : Bool) → ltb f.taken t ≡ a → (b : Bool) → ltb t f.taken ≡ b → given g'' m h q ≡ given g' (take n r) (drop n r) (drop t p)
          test true x b y = absurd (clash (rw f.settles at (late f.taken (ltb-true _ _ x))))
          test false x true y = absurd (clash (rw e at (f.none_fewer t (ltb-true _ _ y))))
          test false x false y =
              let z : f.taken ≡ t = omega (arith, ltb-false f.taken t x, ltb-false t f.taken y) in
              let s : scan false (take t p) g ≡ got g'' f.size f.from = rw z at f.settles in
              let u : got g'' f.size f.from ≡ got g' n r = sym s ∙ e in
              let u0 : g'' ≡ g' = cc in
              let u1 : f.size ≡ n = cc in
              let u2 : f.from ≡ r = cc in
              let m' : m ≡ take n r = f.answer ∙ rw (u1, u2) in
              let h' : h ≡ drop n r = f.held ∙ rw (u1, u2) in
              let q' : q ≡ drop t p = f.rest ∙ rw z in
              rw (u0, m', h', q')
      go (more g'' h) f = let y : ◌≡◌ {A = ℕ} 0 1 = cc (whole) in absurd (omega arith)

  stops_is : (g' : ℕ) (r : List ℕ) → scan false p g ≡ stop g' r → feed [] g p ≡ more g' r
  stops_is g' r e = go (feed [] g p) (feed_fewest p [] g)
    where
      go : (f : Fed) → FedFact [] g p f → f ≡ more g' r
      go (given g'' m h q) f =
          let w : scan false p g ≡ got g'' f.size (f.from ++ drop f.taken p)
          = ap (λ s. scan false s g) (sym (take-append-drop f.taken p)) ∙ scan_append (take f.taken p) (drop f.taken p) g ∙ rw f.settles in
          let y : ◌≡◌ {A = ℕ} 0 1 = cc in
          absurd (omega arith)
      go (more g'' h) f = cc

-- ---- an open position holds a scan up
abbrev Before : ℕ → Scan → Type 0
Before m (got g n r) = (g < m)
Before m (stop g r) = Unit

stuck : (k : ℕ) (xs : List ℕ) (g : ℕ) → look (drop k xs) ≡ unsettled → Before (g + k) (scan false xs g)
unfolding scan scanned seen settle
stuck zero [] g e = tt
stuck zero (x ∷ xs) g e = rw e tt
stuck (suc k) [] g e = tt
stuck (suc k) (x ∷ xs) g e = go (look (x ∷ xs)) (stuck k xs (suc g) e)
  where
    go : (l : Look) → Before (suc g + k) (scan false xs (suc g)) → Before (g + suc k) (scanned l g (x ∷ xs) (scan false xs (suc g)))
    go unsettled h = tt
    go gap h = rw (add-suc g k, ← suc-add g k) h
    go (message n) h = omega arith

-- ---- the front, with some of the bytes and with all
module _ (xs ys : List ℕ) where
  still_open : (n : ℕ) → claim (xs ++ ys) ≡ Long n → length xs < n → look xs ≡ unsettled
  unfolding look look_by
  still_open n e l = go (claim xs) (rw e at (claim_append xs ys))
    where
      go : (c : Claim) → Long n ≡ keep_claim c (Long n) → look_by c xs ≡ unsettled
      go Nothing z = let y : ◌≡◌ {A = ℕ} 0 1 = cc in absurd (omega arith)
      go (AtLeast k) z = refl
      go (Long k) z = let y : n ≡ k = cc in rw (lt-leb k (length xs) (omega arith))

  same_claim : 15 ≤ length xs → claim xs ≡ claim (xs ++ ys)
  same_claim l = go (claim xs) (claim_fact xs) (claim_append xs ys)
    where
      go : (c : Claim) → ClaimFact xs c → claim (xs ++ ys) ≡ keep_claim c (claim (xs ++ ys)) → c ≡ claim (xs ++ ys)
      go Nothing f z = sym z
      go (AtLeast k) f z = absurd (omega arith)
      go (Long k) f z = sym z

  still_none : 15 ≤ length xs → claim (xs ++ ys) ≡ Nothing → look xs ≡ gap
  unfolding look look_by
  still_none l e = rw (same_claim l, e)

  still_long : (n : ℕ) → 15 ≤ length xs → claim (xs ++ ys) ≡ Long n → n ≤ length xs → look xs ≡ look (xs ++ ys)
  unfolding look look_by judged
  still_long n l e m =
      rw (same_claim l, e, le-leb n (length xs) m, le-leb n (length (xs ++ ys)) (omega (arith, length-append xs ys)), take-append-le n xs ys m)

cut : (k j : ℕ) (p : List ℕ) → k ≤ j → j ≤ length p → drop k (take j p) ++ drop j p ≡ drop k p
cut k j p a b =
    let l : length (take j p) ≡ j = length-take-le j p b in
    sym (drop-append-le k (take j p) (drop j p) (omega arith)) ∙ ap (drop k) (take-append-drop j p)

length_cut : (k j : ℕ) (p : List ℕ) → j ≤ length p → length (drop k (take j p)) ≡ j - k
length_cut k j p b = length-drop k (take j p) ∙ rw (length-take-le j p b)

-- ---- a step over a gap position
scan_gap : (k : ℕ) (xs : List ℕ) (g : ℕ) → k < length xs → look (drop k xs) ≡ gap → scan false (drop k xs) (g + k) ≡ scan false (drop (k + 1) xs) (g + (k + 1))
unfolding scan scanned seen settle
scan_gap k xs g l e =
    let d : drop k xs ≡ get_or xs k 0 ∷ drop (suc k) xs = drop-cons xs k 0 l in
    let z : look (get_or xs k 0 ∷ drop (suc k) xs) ≡ gap = rw d at e in
    let s : suc (g + k) ≡ g + suc k = sym (add-suc g k) in
    rw (d, z, add-one, s)

scan_message : (k : ℕ) (xs : List ℕ) (g n : ℕ) → k < length xs → look (drop k xs) ≡ message n → scan false (drop k xs) g ≡ got g n (drop k xs)
unfolding scan scanned seen settle
scan_message k xs g n l e =
    let d : drop k xs ≡ get_or xs k 0 ∷ drop (suc k) xs = drop-cons xs k 0 l in
    let z : look (get_or xs k 0 ∷ drop (suc k) xs) ≡ message n = rw d at e in
    rw (d, z)

begins : (p : List ℕ) → Reached p 0 0
begins p = record { within = omega arith; upto = omega arith; near = omega arith; all = λ g. rw (add-zero g); part = λ g j a b c. rw (add-zero g); late = λ g j l. absurd (omega arith) }

-- a scan that an open position before its message holds up settles nothing
abbrev Past : ℕ → Scan → Type 0
Past m (got g n r) = (m ≤ g)
Past m (stop g r) = Unit

past : (xs : List ℕ) (m : ℕ) → Past m (scan false xs m)
past xs m = go (scan false xs m) (scan_fact false xs m)
  where
    go : (s : Scan) → ScanFact xs m s → Past m s
    go (got g n r) f = omega (arith, f.0.counted)
    go (stop g r) f = tt

held_up : (p : List ℕ) (g k j : ℕ) → look (drop k (take j p)) ≡ unsettled → Past (g + k) (scan false p g) → settled (scan false (take j p) g) ≡ false
held_up p g k j e = go (scan false (take j p) g) refl (stuck k (take j p) g e)
  where
    go : (s : Scan) → scan false (take j p) g ≡ s → Before (g + k) s → Past (g + k) (scan false p g) → settled s ≡ false
    go (got g' n r) z b q =
        let w : scan false p g ≡ got g' n (r ++ drop j p) = ap (λ s. scan false s g) (sym (take-append-drop j p)) ∙ scan_append (take j p) (drop j p) g ∙ rw z in
        let y : Past (g + k) (got g' n (r ++ drop j p)) = rw w at q in
        absurd (omega arith)
    go (stop g' r) z b q = refl

module _ (p : List ℕ) (k t : ℕ) (f : Reached p k t) where
  passes : (g : ℕ) → Past (g + k) (scan false p g)
  passes g = rw (f.all g) (past (drop k p) (g + k))

  -- it comes to an open position, or to the end
  reach_open : look (drop k p) ≡ unsettled → FedMore p k
  reach_open e =
      let q : LookFact (drop k p) unsettled = rw e at (look_fact (drop k p)) in
      record { within = f.within; held = omega (arith, q, need_most (drop k p), length-drop k p); feeds = λ g. stops_is p g (g + k) (drop k p) (f.all g ∙ scan_open (drop k p) (g + k) e) }

  reach_end : length p ≤ k → FedMore p k
  reach_end l = reach_open (ap look (drop_of_length-le p l) ∙ look_nil)

  module _ (l : k < length p) where
    step : look (drop k p) ≡ gap → (u : ℕ) → t ≤ u → u ≤ length p → u ≤ k + 1 + 6136
        → ((j : ℕ) → u ≤ j → k + 1 + 15 ≤ j → j ≤ length p → look (drop k (take j p)) ≡ gap)
        → ((j : ℕ) → j < u → (j < t) ⊎ (look (drop k (take j p)) ≡ unsettled))
        → Reached p (k + 1) u
    step e u a b c h q =
        record {
          within = omega arith;
          upto = b;
          near = c;
          all = λ g. f.all g ∙ scan_gap k p g l e;
          part = λ g j x y z. f.part g j (omega arith) (omega arith) z ∙ scan_gap k (take j p) g (omega (arith, length-take-le j p z)) (h j x y z);
          late = λ g j x. ⊎_elim (λ y. f.late g j y) (λ y. held_up p g k j y (passes g)) (q j x);
        }

    reach_none : claim (drop k p) ≡ Nothing → Reached p (k + 1) t
    unfolding look look_by
    reach_none e =
        step (rw e) t (omega arith) f.upto (omega (arith, f.near))
        (λ j x y z. still_none (drop k (take j p)) (drop j p) (omega (arith, length_cut k j p z)) (rw (cut k j p (omega arith) z) e))
        (λ j x. inl x)

    module _ (n u : ℕ) (e : claim (drop k p) ≡ Long n) (m : k + n ≤ length p) (a : t ≤ u) (b : k + n ≤ u) (q : (u ≡ t) ⊎ (u ≡ k + n)) where
      sizes : (15 ≤ n) × (n ≤ 6136)
      sizes = let h : ClaimFact (drop k p) (Long n) = rw e at (claim_fact (drop k p)) in (h.0, h.1)

      upto : u ≤ length p
      upto = ⊎_elim (λ x. omega (arith, f.upto)) (λ x. omega arith) q

      -- with fewer than its bytes the position is open
      waits : (j : ℕ) → j < k + n → look (drop k (take j p)) ≡ unsettled
      waits j x = test (ltb j k) refl
        where
          test : (d : Bool) → ltb j k ≡ d → look (drop k (take j p)) ≡ unsettled
          test true z =
              let y : j < k = ltb-true _ _ z in
              let o : length (take j p) ≤ k = omega (arith, length-take-le j p (omega (arith, f.within))) in
              ap look (drop_of_length-le (take j p) o) ∙ look_nil
          test false z =
              let y : k ≤ j = ltb-false _ _ z in
              let w : j ≤ length p = omega arith in
              still_open (drop k (take j p)) (drop j p) n (rw (cut k j p y w) e) (omega (arith, length_cut k j p w))

      same_look : (j : ℕ) → u ≤ j → j ≤ length p → look (drop k (take j p)) ≡ look (drop k p)
      same_look j x z =
          let c : drop k (take j p) ++ drop j p ≡ drop k p = cut k j p (omega (arith, sizes.0)) z in
          still_long (drop k (take j p)) (drop j p) n (omega (arith, sizes.0, length_cut k j p z)) (rw c e) (omega (arith, length_cut k j p z)) ∙ rw c

      reach_bad : agrees (take n (drop k p)) ≡ false → Reached p (k + 1) u
      unfolding look look_by judged
      reach_bad w =
          let h : look (drop k p) ≡ gap = rw (e, le-leb n (length (drop k p)) (omega (arith, length-drop k p)), w) in
          step h u a upto (⊎_elim (λ x. omega (arith, f.near)) (λ x. omega (arith, sizes.1)) q)
          (λ j x y z. same_look j x z ∙ h)
          (λ j x. ⊎_elim (λ y. inl (omega arith)) (λ y. inr (waits j (omega arith))) q)

      reach_message : agrees (take n (drop k p)) ≡ true → FedMessage p k n u
      unfolding look look_by judged
      reach_message w =
          let h : look (drop k p) ≡ message n = rw (e, le-leb n (length (drop k p)) (omega (arith, length-drop k p)), w) in
          record {
            inside = b;
            within = upto;
            long = sizes.0;
            size = sizes.1;
            held = ⊎_elim (λ x. omega (arith, f.near)) (λ x. omega arith) q;
            feeds = λ g. fewest_is p g u (g + k) n (drop k (take u p)) upto
                (f.part g u a (omega (arith, sizes.0)) upto ∙ scan_message k (take u p) (g + k) n (omega (arith, sizes.0, length-take-le u p upto)) (same_look u (omega arith) upto ∙ h))
                (λ j x. ⊎_elim (λ y. f.late g j (omega arith)) (λ y. held_up p g k j (waits j (omega arith)) (passes g)) q);
          }

-- ---- the walk, a position at a time
further_is : (a b : ℕ) → (a ≤ further a b) × (b ≤ further a b) × ((further a b ≡ a) ⊎ (further a b ≡ b))
further_is a b = go (ltb a b) refl
  where
    go : (t : Bool) → ltb a b ≡ t → (a ≤ cond t b a) × (b ≤ cond t b a) × ((cond t b a ≡ a) ⊎ (cond t b a ≡ b))
    go true e = (omega (arith, ltb-true a b e), omega arith, inr refl)
    go false e = (omega arith, ltb-false a b e, inl refl)

walk_ended : (p : List ℕ) (k t : ℕ) → Reached p k t → length p ≤ k → FedAs p (walk_of false (drop k p) k t)
unfolding walk_of
walk_ended p k t f l = rw (drop_of_length-le p l) (reach_end p k t f l)

walk_reaches : (m : ℕ) (p : List ℕ) (k t : ℕ) → length p ≤ k + m → Reached p k t → FedAs p (walk_of false (drop k p) k t)
unfolding walked_by look look_by
walk_reaches zero p k t l f = walk_ended p k t f (omega arith)
walk_reaches (suc m) p k t l f = test (ltb k (length p)) refl (walk_reaches m p (k + 1))
  where
    Onward : Type 0
    Onward = (t : ℕ) → length p ≤ k + 1 + m → Reached p (k + 1) t → FedAs p (walk_of false (drop (k + 1) p) (k + 1) t)

    test : (b : Bool) → ltb k (length p) ≡ b → Onward → FedAs p (walk_of false (drop k p) k t)
    test false e ih = walk_ended p k t f (ltb-false k (length p) e)
    test true e ih = rw (walk_at false p t k (ltb-true k (length p) e)) (by (claim (drop k p)) refl)
      where
        here : k < length p
        here = ltb-true k (length p) e

        by : (c : Claim) → claim (drop k p) ≡ c → FedAs p (walked_by false c (drop k p) k t (λ u. walk_of false (drop (k + 1) p) (k + 1) u))
        by Nothing z = ih t (omega arith) (reach_none p k t f here z)
        by (AtLeast j) z = reach_open p k t f (rw z)
        by (Long n) z = judge (leb n (length (drop k p))) refl (agrees (take n (drop k p))) refl
          where
            judge : (a : Bool) → leb n (length (drop k p)) ≡ a → (b : Bool) → agrees (take n (drop k p)) ≡ b
                → FedAs p (cond a (cond b (Message k n (further t (k + n))) (walk_of false (drop (k + 1) p) (k + 1) (further t (k + n)))) (wanting false k (walk_of false (drop (k + 1) p) (k + 1) t)))
            judge true x true y =
                let u = further_is t (k + n) in
                reach_message p k t f here n (further t (k + n)) z (omega (arith, leb-true n (length (drop k p)) x, length-drop k p)) u.0 u.1 u.2 y
            judge true x false y =
                let u = further_is t (k + n) in
                ih (further t (k + n)) (omega arith) (reach_bad p k t f here n (further t (k + n)) z (omega (arith, leb-true n (length (drop k p)) x, length-drop k p)) u.0 u.1 u.2 y)
            judge false x b y = reach_open p k t f (rw (z, x))

-- ---- as the code has it
module _ (p : List ℕ) (w : Walked) (z : w ≡ walk_of false p 0 0) where
  fed_as : FedAs p w
  fed_as = rw z (walk_reaches (length p) p 0 0 (omega arith) (begins p))

  pub fed_message : (k n t : ℕ) → w ≡ Message k n t → FedMessage p k n t
  fed_message k n t q = rw q at fed_as

  pub fed_more : (k : ℕ) → w ≡ Unsettled k → FedMore p k
  fed_more k q = rw q at fed_as
