-- The laws of a scan: what it has settled stays, and where it comes to. Assumes nothing.
use Prim.Native.Nat.{ℕ, suc, ◌+◌, ◌-◌, ◌≤◌, ◌<◌}
use mathlib.Core.Path.{◌≡◌, refl, ap, ap₂, ◌∙◌}
use mathlib.Core.Bool.{Bool, true, false}
use mathlib.Core.List.{List, [], ◌∷◌, ◌++◌, append-nil}
use native.Mathlib.Omega.{arith}
use lib.ListN.{length, drop}
use Rattle.front.specs.Look.{Look, unsettled, gap, message, look, tested}
use Rattle.front.proofs.Settled.{look_append, tested_append}
use Rattle.front.proofs.Bounds.{LookFact, look_fact, most, need_most}
use Rattle.division.specs.Work.{tested_in}
use Rattle.division.proofs.DivideSteps.{look_nil}
use Rattle.stream.specs.Scan.{settle, seen, Scan, got, stop, scanned, scan}

-- ---- a scan of more bytes goes on from a scan of fewer
abbrev pub onward : Scan → List ℕ → Scan
onward (got g n r) ys = got g n (r ++ ys)
onward (stop g r) ys = scan false (r ++ ys) g

pub scan_append : (xs ys : List ℕ) (g : ℕ) → scan false (xs ++ ys) g ≡ onward (scan false xs g) ys
unfolding scan scanned seen settle
scan_append [] ys g = refl
scan_append (x ∷ xs) ys g = go (look (x ∷ xs)) refl (scan_append xs ys (suc g))
  where
    go : (l : Look) → look (x ∷ xs) ≡ l → scan false (xs ++ ys) (suc g) ≡ onward (scan false xs (suc g)) ys
        → scan false (x ∷ xs ++ ys) g ≡ onward (scanned l g (x ∷ xs) (scan false xs (suc g))) ys
    go unsettled e h = refl
    go gap e h = rw (look_append (x ∷ xs) ys, e) h
    go (message n) e h = rw (look_append (x ∷ xs) ys, e)

-- ---- where a scan comes to: it passes k bytes as gap
pub record Passed (xs : List ℕ) (g g' : ℕ) (r : List ℕ) : Type 0 where
  pub bytes : ℕ
  pub counted : g' ≡ g + bytes
  pub leaves : r ≡ drop bytes xs
  pub within : bytes ≤ length xs

abbrev pub ScanFact : List ℕ → ℕ → Scan → Type 0
ScanFact xs g (got g' n r) = Passed xs g g' r × (15 ≤ n) × (n ≤ length r)
ScanFact xs g (stop g' r) = Passed xs g g' r × (length r < most)

pub scan_fact : (e : Bool) (xs : List ℕ) (g : ℕ) → ScanFact xs g (scan e xs g)
unfolding scan scanned seen settle
scan_fact e [] g = (record { bytes = 0; counted = omega arith; leaves = refl; within = omega arith }, omega arith)
scan_fact e (x ∷ xs) g = go e (look (x ∷ xs)) (look_fact (x ∷ xs)) (pass (scan e xs (suc g)) (scan_fact e xs (suc g)))
  where
    here : (g : ℕ) (xs : List ℕ) → Passed xs g g xs
    here g xs = record { bytes = 0; counted = omega arith; leaves = refl; within = omega arith }

    on : (g' : ℕ) (r : List ℕ) → Passed xs (suc g) g' r → Passed (x ∷ xs) g g' r
    on g' r h = record { bytes = suc h.bytes; counted = omega arith; leaves = h.leaves; within = omega arith }

    pass : (s : Scan) → ScanFact xs (suc g) s → ScanFact (x ∷ xs) g s
    pass (got g' n r) h = (on g' r h.0, h.1, h.2)
    pass (stop g' r) h = (on g' r h.0, h.1)

    go : (e : Bool) (l : Look) → LookFact (x ∷ xs) l → ScanFact (x ∷ xs) g (scan e xs (suc g)) → ScanFact (x ∷ xs) g (scanned (settle e l) g (x ∷ xs) (scan e xs (suc g)))
    go true unsettled l h = h
    go true gap l h = h
    go true (message n) l h = (here g (x ∷ xs), l.0, l.1)
    go false unsettled l h = (here g (x ∷ xs), omega (arith, need_most (x ∷ xs)))
    go false gap l h = h
    go false (message n) l h = (here g (x ∷ xs), l.0, l.1)

-- ---- it stops at an unsettled position, or at the end with nothing left
abbrev pub StopsOpen : Scan → Type 0
StopsOpen (got g n r) = Unit
StopsOpen (stop g r) = (look r ≡ unsettled)

pub scan_open_at : (xs : List ℕ) (g : ℕ) → StopsOpen (scan false xs g)
unfolding scan scanned seen settle
scan_open_at [] g = look_nil
scan_open_at (x ∷ xs) g = go (look (x ∷ xs)) refl (scan_open_at xs (suc g))
  where
    go : (l : Look) → look (x ∷ xs) ≡ l → StopsOpen (scan false xs (suc g)) → StopsOpen (scanned l g (x ∷ xs) (scan false xs (suc g)))
    go unsettled e h = e
    go gap e h = h
    go (message n) e h = tt

-- at the end of the stream a scan stops with nothing left
abbrev pub StopsEmpty : Scan → Type 0
StopsEmpty (got g n r) = Unit
StopsEmpty (stop g r) = (r ≡ [])

pub scan_empty_at : (xs : List ℕ) (g : ℕ) → StopsEmpty (scan true xs g)
unfolding scan scanned seen settle
scan_empty_at [] g = refl
scan_empty_at (x ∷ xs) g = go (look (x ∷ xs)) (scan_empty_at xs (suc g))
  where
    go : (l : Look) → StopsEmpty (scan true xs (suc g)) → StopsEmpty (scanned (settle true l) g (x ∷ xs) (scan true xs (suc g)))
    go unsettled h = h
    go gap h = h
    go (message n) h = tt

-- ---- what was tested for the positions that it settled stays with more bytes; at the end of the stream none come
abbrev pub TestedStays : List ℕ → List ℕ → ℕ → Scan → Type 0
TestedStays xs ys g (got g' n r) = (g ≤ g') × (tested_in (suc (g' - g)) (xs ++ ys) ≡ tested_in (suc (g' - g)) xs)
TestedStays xs ys g (stop g' r) = (g ≤ g') × (tested_in (g' - g) (xs ++ ys) ≡ tested_in (g' - g) xs)

gap_stays : (e : Bool) (xs ys : List ℕ) → seen e xs ≡ gap → (e ≡ true → ys ≡ []) → tested (xs ++ ys) ≡ tested xs
unfolding seen settle
gap_stays true xs ys s n = rw (n refl, append-nil xs)
gap_stays false xs ys s n = tested_append xs ys ∙ rw s

pub tested_stays : (e : Bool) (xs ys : List ℕ) (g : ℕ) → (e ≡ true → ys ≡ []) → TestedStays xs ys g (scan e xs g)
unfolding scan scanned seen settle tested_in
tested_stays e [] ys g n = let z : g - g ≡ 0 = omega arith in (omega arith, rw z)
tested_stays e (x ∷ xs) ys g n = go e (look (x ∷ xs)) refl n (tested_stays e xs ys (suc g) n)
  where
    on : (e : Bool) → seen e (x ∷ xs) ≡ gap → (e ≡ true → ys ≡ []) → (s : Scan) → TestedStays xs ys (suc g) s → TestedStays (x ∷ xs) ys g s
    on e q n (got g' k r) h = let z : g' - g ≡ suc (g' - suc g) = omega (arith, h.0) in (omega (arith, h.0), rw z (ap₂ (λ i j. i + j) (gap_stays e (x ∷ xs) ys q n) h.1))
    on e q n (stop g' r) h = let z : g' - g ≡ suc (g' - suc g) = omega (arith, h.0) in (omega (arith, h.0), rw z (ap₂ (λ i j. i + j) (gap_stays e (x ∷ xs) ys q n) h.1))

    none : g - g ≡ 0
    none = omega arith

    go : (e : Bool) (l : Look) → look (x ∷ xs) ≡ l → (e ≡ true → ys ≡ []) → TestedStays xs ys (suc g) (scan e xs (suc g)) → TestedStays (x ∷ xs) ys g (scanned (settle e l) g (x ∷ xs) (scan e xs (suc g)))
    go true unsettled q n h = on true (rw q) n (scan true xs (suc g)) h
    go true gap q n h = on true (rw q) n (scan true xs (suc g)) h
    go false unsettled q n h = (omega arith, rw none)
    go false gap q n h = on false q n (scan false xs (suc g)) h
    go true (message k) q n h = (omega arith, rw none (ap (λ i. i + 0) (tested_append (x ∷ xs) ys ∙ rw q)))
    go false (message k) q n h = (omega arith, rw none (ap (λ i. i + 0) (tested_append (x ∷ xs) ys ∙ rw q)))
