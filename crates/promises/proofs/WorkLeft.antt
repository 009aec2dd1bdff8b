-- What a scan, a feed and a finish have tested of a stream, and what is left to be tested: each position once. Assumes nothing.
use Prim.Native.Nat.{ℕ, suc, ◌+◌, ◌-◌, ◌≤◌}
use mathlib.Core.Path.{◌≡◌, refl, sym, ap, ◌∙◌}
use mathlib.Core.Bool.{Bool, true, false}
use mathlib.Core.List.{List, [], ◌∷◌, ◌++◌, append_assoc, append-nil}
use native.Mathlib.Omega.{arith}
use lib.ListN.{take, drop, take-append-drop}
use lib.Seq.{drop-append-le}
use Rattle.front.specs.Look.{Look, unsettled, gap, message, look}
use Rattle.front.proofs.Bounds.{LookFact, look_fact}
use Rattle.division.specs.Division.{length_of, stands}
use Rattle.division.specs.Work.{tested_in, work_of}
use Rattle.stream.specs.Scan.{settle, seen, Scan, got, stop, scanned, scan}
use Rattle.stream.specs.Feed.{Fed, given, more, fed, feed, finish}
use Rattle.stream.proofs.ScanLaws.{TestedStays, tested_stays, StopsEmpty, scan_empty_at}
use Rattle.stream.proofs.FeedLaws.{FedFact, feed_fewest}
use Rattle.promises.proofs.Left.{stands_gap, stands_message}
use Rattle.promises.proofs.WorkSteps.{work_nil, work_gap, work_message}

-- ---- a scan, whatever bytes come behind; at the end of the stream none come
abbrev Works : List ℕ → List ℕ → ℕ → Scan → Type 0
Works xs ys g (got g' n r) = (g ≤ g') × (work_of (xs ++ ys) ≡ tested_in (suc (g' - g)) (xs ++ ys) + work_of (drop n r ++ ys))
Works xs ys g (stop g' r) = (g ≤ g') × (work_of (xs ++ ys) ≡ tested_in (g' - g) (xs ++ ys) + work_of (r ++ ys))

scan_works : (e : Bool) (xs ys : List ℕ) (g : ℕ) → (e ≡ true → ys ≡ []) → Works xs ys g (scan e xs g)
unfolding scan scanned seen settle tested_in stands length_of
scan_works e [] ys g n = let z : g - g ≡ 0 = omega arith in (omega arith, rw z (omega arith))
scan_works e (x ∷ xs) ys g n = go e (look (x ∷ xs)) refl n (scan_works e xs ys (suc g) n)
  where
    on : stands (x ∷ xs ++ ys) ≡ 0 → (s : Scan) → Works xs ys (suc g) s → Works (x ∷ xs) ys g s
    on e (got g' n r) h = let z : g' - g ≡ suc (g' - suc g) = omega (arith, h.0) in (omega (arith, h.0), rw z (omega (arith, work_gap x (xs ++ ys) e, h.1)))
    on e (stop g' r) h = let z : g' - g ≡ suc (g' - suc g) = omega (arith, h.0) in (omega (arith, h.0), rw z (omega (arith, work_gap x (xs ++ ys) e, h.1)))

    none : g - g ≡ 0
    none = omega arith

    given_here : (n : ℕ) → look (x ∷ xs) ≡ message n → Works (x ∷ xs) ys g (got g n (x ∷ xs))
    given_here n e =
        let f : LookFact (x ∷ xs) (message n) = rw e at (look_fact (x ∷ xs)) in
        (omega arith, rw none (omega (arith, work_message x (xs ++ ys) n (stands_message (x ∷ xs) ys n e) (omega arith), ap work_of (drop-append-le n (x ∷ xs) ys f.1))))

    ended : (l : Look) → look (x ∷ xs) ≡ l → length_of l ≡ 0 → ys ≡ [] → stands (x ∷ xs ++ ys) ≡ 0
    ended l e z q = rw (q, append-nil (x ∷ xs), e) z

    go : (e : Bool) (l : Look) → look (x ∷ xs) ≡ l → (e ≡ true → ys ≡ []) → Works xs ys (suc g) (scan e xs (suc g)) → Works (x ∷ xs) ys g (scanned (settle e l) g (x ∷ xs) (scan e xs (suc g)))
    go true unsettled q n h = on (ended unsettled q refl (n refl)) (scan true xs (suc g)) h
    go true gap q n h = on (ended gap q refl (n refl)) (scan true xs (suc g)) h
    go true (message k) q n h = given_here k q
    go false unsettled q n h = (omega arith, rw none (omega arith))
    go false gap q n h = on (stands_gap (x ∷ xs) ys q) (scan false xs (suc g)) h
    go false (message k) q n h = given_here k q

-- ---- a feed
abbrev pub FedWorks : List ℕ → List ℕ → List ℕ → ℕ → Fed → Type 0
FedWorks h p ys g (given g' m r q) = (work_of (h ++ (p ++ ys)) ≡ tested_in (suc (g' - g)) (h ++ p) + work_of (r ++ (q ++ ys)))
FedWorks h p ys g (more g' r) = (work_of (h ++ (p ++ ys)) ≡ tested_in (g' - g) (h ++ p) + work_of (r ++ ys))

pub feed_works : (h p ys : List ℕ) (g : ℕ) → FedWorks h p ys g (feed h g p)
feed_works h p ys g = go (feed h g p) (feed_fewest p h g)
  where
    never : {A : Type 0} → false ≡ true → A
    never z = absurd (let y : ◌≡◌ {A = ℕ} 0 1 = cc in omega arith)

    go : (f : Fed) → FedFact h g p f → FedWorks h p ys g f
    go (given g' m r q) f =
        let xs : List ℕ = h ++ take f.taken p in
        let zs : List ℕ = drop f.taken p in
        let joins : (us : List ℕ) → xs ++ (zs ++ us) ≡ h ++ (p ++ us) = λ us. append_assoc h (take f.taken p) (zs ++ us) ∙ ap (λ i. h ++ i) (sym (append_assoc (take f.taken p) zs us) ∙ ap (λ i. i ++ us) (take-append-drop f.taken p)) in
        let w : Works xs (zs ++ ys) g (got g' f.size f.from) = rw f.settles at (scan_works false xs (zs ++ ys) g (λ z. never z)) in
        let a : TestedStays xs (zs ++ ys) g (got g' f.size f.from) = rw f.settles at (tested_stays false xs (zs ++ ys) g (λ z. never z)) in
        let b : TestedStays xs (zs ++ []) g (got g' f.size f.from) = rw f.settles at (tested_stays false xs (zs ++ []) g (λ z. never z)) in
        let c : tested_in (suc (g' - g)) (xs ++ (zs ++ [])) ≡ tested_in (suc (g' - g)) (h ++ p) = ap (tested_in (suc (g' - g))) (joins [] ∙ ap (λ i. h ++ i) (append-nil p)) in
        rw (f.held, f.rest) (omega (arith, w.1, a.1, b.1, c, ap work_of (joins ys)))
    go (more g' r) f =
        let w : Works (h ++ p) ys g (stop g' r) = rw f at (scan_works false (h ++ p) ys g (λ z. never z)) in
        let a : TestedStays (h ++ p) ys g (stop g' r) = rw f at (tested_stays false (h ++ p) ys g (λ z. never z)) in
        omega (arith, w.1, a.1, ap work_of (append_assoc h p ys))

-- ---- a finish
abbrev pub FinishWorks : List ℕ → ℕ → Fed → Type 0
FinishWorks h g (given g' m r q) = (work_of h ≡ tested_in (suc (g' - g)) h + work_of r)
FinishWorks h g (more g' r) = (work_of h ≡ tested_in (g' - g) h)

pub finish_works : (h : List ℕ) (g : ℕ) → FinishWorks h g (finish h g)
unfolding finish fed
finish_works h g = go (scan true h g) (scan_works true h [] g (λ z. refl)) (scan_empty_at h g)
  where
    go : (s : Scan) → Works h [] g s → StopsEmpty s → FinishWorks h g (fed [] s)
    go (got g' n r) w e = rw (append-nil h, append-nil (drop n r)) at w.1
    go (stop g' r) w e = omega (arith, rw (append-nil h, append-nil r) at w.1, ap work_of e, work_nil)
