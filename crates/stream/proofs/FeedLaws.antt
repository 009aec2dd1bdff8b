-- The laws of a feed: it takes the fewest bytes that settle the next message, in bulk or one by one. Assumes nothing.
use Prim.Native.Nat.{ℕ, zero, suc, ◌≤◌, ◌<◌}
use mathlib.Core.Path.{◌≡◌, refl, ap, ◌∙◌}
use mathlib.Core.Bool.{Bool, true, false}
use mathlib.Core.List.{List, [], ◌∷◌, ◌++◌, append_assoc, append-nil}
use native.Mathlib.Omega.{arith}
use lib.ListN.{length, take, drop, length-append}
use Rattle.front.specs.Look.{unsettled, look}
use Rattle.stream.specs.Scan.{settle, seen, Scan, got, stop, scanned, scan}
use Rattle.stream.specs.Feed.{Fed, given, more, fed, feed}
use Rattle.stream.proofs.ScanLaws.{scan_append}

-- ---- taking bytes in bulk: as many as the front position needs, at once
abbrev pub Waits : List ℕ → ℕ → Type 0
Waits h k = (ys : List ℕ) → length (h ++ ys) < k → look (h ++ ys) ≡ unsettled

pub scan_open : (xs : List ℕ) (g : ℕ) → look xs ≡ unsettled → scan false xs g ≡ stop g xs
unfolding scan scanned seen settle
scan_open [] g e = refl
scan_open (x ∷ xs) g e = rw e

pub fed_bulk : (p q h : List ℕ) (g k : ℕ) → Waits h k → 0 < length p → length (h ++ p) ≤ k → fed (p ++ q) (stop g h) ≡ fed q (scan false (h ++ p) g)
unfolding fed
fed_bulk [] q h g k w z l = absurd (omega arith)
fed_bulk (a ∷ []) q h g k w z l = refl
fed_bulk (a ∷ b ∷ p) q h g k w z l =
    let e : h ++ (a ∷ []) ++ (b ∷ p) ≡ h ++ (a ∷ b ∷ p) = append_assoc h (a ∷ []) (b ∷ p) in
    let n : length (h ++ (a ∷ [])) < k = omega (arith, length-append h (a ∷ []), length-append h (a ∷ b ∷ p)) in
    ap (fed (b ∷ p ++ q)) (scan_open (h ++ (a ∷ [])) g (w (a ∷ []) n))
    ∙ fed_bulk (b ∷ p) q (h ++ (a ∷ [])) g k (λ ys j. rw append_assoc (w ((a ∷ []) ++ ys) (rw append_assoc at j))) (omega arith) (rw e l)
    ∙ rw e

-- ---- a feed takes the fewest bytes that settle the next message
abbrev pub settled : Scan → Bool
settled (got g n r) = true
settled (stop g r) = false

pub record Fewest (h : List ℕ) (g : ℕ) (p : List ℕ) (g' : ℕ) (m h' q : List ℕ) : Type 0 where
  pub taken : ℕ
  pub size : ℕ
  pub from : List ℕ
  pub settles : scan false (h ++ take taken p) g ≡ got g' size from
  pub none_fewer : (j : ℕ) → j < taken → settled (scan false (h ++ take j p) g) ≡ false
  pub within : taken ≤ length p
  pub rest : q ≡ drop taken p
  pub answer : m ≡ take size from
  pub held : h' ≡ drop size from

abbrev pub FedFact : List ℕ → ℕ → List ℕ → Fed → Type 0
FedFact h g p (given g' m h' q) = Fewest h g p g' m h' q
FedFact h g p (more g' h') = (scan false (h ++ p) g ≡ stop g' h')

pub feed_fewest : (p h : List ℕ) (g : ℕ) → FedFact h g p (feed h g p)
unfolding feed fed
feed_fewest [] h g = go (scan false h g) refl
  where
    go : (s : Scan) → scan false h g ≡ s → FedFact h g [] (fed [] s)
    go (got g' n r) e =
        record { taken = 0; size = n; from = r; settles = rw append-nil e; none_fewer = λ j l. absurd (omega arith); within = omega arith; rest = refl; answer = refl; held = refl }
    go (stop g' r) e = rw append-nil e
feed_fewest (b ∷ p) h g = go (scan false h g) refl (feed_fewest p)
  where
    go : (s : Scan) → scan false h g ≡ s → ((h : List ℕ) (g : ℕ) → FedFact h g p (feed h g p)) → FedFact h g (b ∷ p) (fed (b ∷ p) s)
    go (got g' n r) e ih =
        record { taken = 0; size = n; from = r; settles = rw append-nil e; none_fewer = λ j l. absurd (omega arith); within = omega arith; rest = refl; answer = refl; held = refl }
    go (stop g' r) e ih = next (fed p (scan false (r ++ (b ∷ [])) g')) (ih (r ++ (b ∷ [])) g')
      where
        step : (ys : List ℕ) → scan false (h ++ (b ∷ ys)) g ≡ scan false (r ++ (b ∷ []) ++ ys) g'
        step ys = scan_append h (b ∷ ys) g ∙ rw (e, append_assoc r (b ∷ []) ys)

        next : (f : Fed) → FedFact (r ++ (b ∷ [])) g' p f → FedFact h g (b ∷ p) f
        next (given g'' m h' q) f =
            record { taken = suc f.taken; size = f.size; from = f.from; settles = step (take f.taken p) ∙ f.settles; none_fewer = fewer; within = omega arith; rest = f.rest; answer = f.answer; held = f.held }
          where
            fewer : (j : ℕ) → j < suc f.taken → settled (scan false (h ++ take j (b ∷ p)) g) ≡ false
            fewer zero l = rw (append-nil, e)
            fewer (suc j) l = rw (step (take j p)) (f.none_fewer j (omega arith))
        next (more g'' h') f = step p ∙ f
