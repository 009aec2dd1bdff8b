-- What a scan, a feed and a finish leave of the division. Assumes nothing.
use Prim.Native.Nat.{ℕ, suc}
use mathlib.Core.Path.{◌≡◌, refl, sym, ap, ap₂, ◌∙◌}
use mathlib.Core.Bool.{true, false}
use mathlib.Core.List.{List, [], ◌∷◌, ◌++◌, append_assoc}
use native.Mathlib.Omega.{arith}
use lib.ListN.{take, drop}
use lib.Seq.{take-append-le, drop-append-le}
use Rattle.front.specs.Look.{Look, unsettled, gap, message, look}
use Rattle.front.proofs.Settled.{look_append}
use Rattle.front.proofs.Bounds.{LookFact, look_fact}
use Rattle.division.specs.Division.{Division, last, part, length_of, stands, divide}
use Rattle.division.proofs.DivideSteps.{divide_nil, divide_gap, divide_message}
use Rattle.stream.specs.Scan.{settle, seen, Scan, got, stop, scanned, scan}
use Rattle.stream.specs.Feed.{Fed, given, more, fed, feed, finish}

-- ---- what is settled before the end is so at the end, with more bytes
pub stands_gap : (xs ys : List ℕ) → look xs ≡ gap → stands (xs ++ ys) ≡ 0
unfolding stands length_of
stands_gap xs ys e = rw (look_append xs ys, e)

pub stands_message : (xs ys : List ℕ) (n : ℕ) → look xs ≡ message n → stands (xs ++ ys) ≡ n
unfolding stands length_of
stands_message xs ys n e = rw (look_append xs ys, e)

-- ---- a scan, and what is left of the division after it
abbrev pub left : Scan → List ℕ → Division
left (got g n r) ys = part g (take n r) (divide (drop n r ++ ys) 0)
left (stop g r) ys = divide (r ++ ys) g

pub scan_more : (xs ys : List ℕ) (g : ℕ) → divide (xs ++ ys) g ≡ left (scan false xs g) ys
unfolding scan scanned seen settle
scan_more [] ys g = refl
scan_more (x ∷ xs) ys g = go (look (x ∷ xs)) refl (scan_more xs ys (suc g))
  where
    go : (l : Look) → look (x ∷ xs) ≡ l → divide (xs ++ ys) (suc g) ≡ left (scan false xs (suc g)) ys
        → divide (x ∷ xs ++ ys) g ≡ left (scanned l g (x ∷ xs) (scan false xs (suc g))) ys
    go unsettled e h = refl
    go gap e h = divide_gap x (xs ++ ys) g (stands_gap (x ∷ xs) ys e) ∙ h
    go (message n) e h =
        let l : LookFact (x ∷ xs) (message n) = rw e at (look_fact (x ∷ xs)) in
        divide_message x (xs ++ ys) g n (stands_message (x ∷ xs) ys n e) (omega arith)
        ∙ ap₂ (λ m r. part g m (divide r 0)) (take-append-le n (x ∷ xs) ys l.1) (drop-append-le n (x ∷ xs) ys l.1)

-- the same at the end of the stream
abbrev pub left_end : Scan → Division
left_end (got g n r) = part g (take n r) (divide (drop n r) 0)
left_end (stop g r) = last g

pub scan_end : (xs : List ℕ) (g : ℕ) → divide xs g ≡ left_end (scan true xs g)
unfolding scan scanned seen settle stands length_of
scan_end [] g = divide_nil g
scan_end (x ∷ xs) g = go (look (x ∷ xs)) refl (scan_end xs (suc g))
  where
    go : (l : Look) → look (x ∷ xs) ≡ l → divide xs (suc g) ≡ left_end (scan true xs (suc g))
        → divide (x ∷ xs) g ≡ left_end (scanned (settle true l) g (x ∷ xs) (scan true xs (suc g)))
    go unsettled e h = divide_gap x xs g (rw e) ∙ h
    go gap e h = divide_gap x xs g (rw e) ∙ h
    go (message n) e h =
        let l : LookFact (x ∷ xs) (message n) = rw e at (look_fact (x ∷ xs)) in
        divide_message x xs g n (rw e) (omega arith)

-- ---- a feed
abbrev pub left_fed : Fed → List ℕ → Division
left_fed (given g m h q) ys = part g m (divide (h ++ (q ++ ys)) 0)
left_fed (more g h) ys = divide (h ++ ys) g

fed_right : (p : List ℕ) (s : Scan) (ys : List ℕ) → left s (p ++ ys) ≡ left_fed (fed p s) ys
unfolding fed
fed_right [] (got g n r) ys = refl
fed_right [] (stop g r) ys = refl
fed_right (b ∷ p) (got g n r) ys = refl
fed_right (b ∷ p) (stop g r) ys =
    ap (λ (l : List ℕ). divide l g) (sym (append_assoc r (b ∷ []) (p ++ ys))) ∙ scan_more (r ++ (b ∷ [])) (p ++ ys) g ∙ fed_right p (scan false (r ++ (b ∷ [])) g) ys

pub feed_right : (h p ys : List ℕ) (g : ℕ) → divide (h ++ (p ++ ys)) g ≡ left_fed (feed h g p) ys
unfolding feed
feed_right h p ys g = scan_more h (p ++ ys) g ∙ fed_right p (scan false h g) ys

abbrev pub left_finish : Fed → Division
left_finish (given g m h q) = part g m (divide h 0)
left_finish (more g h) = last g

pub finish_right : (h : List ℕ) (g : ℕ) → divide h g ≡ left_finish (finish h g)
unfolding finish fed
finish_right h g = scan_end h g ∙ go (scan true h g)
  where
    go : (s : Scan) → left_end s ≡ left_finish (fed [] s)
    go (got g n r) = refl
    go (stop g r) = refl
