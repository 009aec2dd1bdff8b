-- What is settled stays settled as bytes come. Assumes nothing.
use Prim.Native.Nat.{ℕ, suc, ◌≤◌, ◌<◌}
use mathlib.Core.Path.{◌≡◌, refl}
use mathlib.Core.Bool.{Bool, true, false, cond}
use mathlib.Core.List.{List, [], ◌∷◌, ◌++◌}
use native.Mathlib.Omega.{arith}
use lib.ListN.{length, get_or, take, length-append, get_or-append}
use lib.Seq.{take-append-le}
use lib.Dec.{ltb, leb, eqb}
use borrow.Author.Tests.{ltb-true, leb-true, lt-ltb, le-leb}
use Rattle.octets.specs.Begins.{fit}
use Rattle.octets.specs.declared.Fit.{Fit}
use Rattle.octets.specs.declared.Fit.TheVariants.{Whole, Part, Bad}
use Rattle.macm.specs.declared.Form.{Form}
use Rattle.macm.specs.declared.Form.TheVariants.{New, Old}
use Rattle.macm.specs.Form.{new_sync, old_sync, count_at, size}
use Rattle.macm.specs.Check.{covered, agrees}
use Rattle.front.specs.declared.Claim.{Claim}
use Rattle.front.specs.declared.Claim.TheVariants.{Nothing, AtLeast, Long}
use Rattle.front.specs.Claim.{cap, counted, claim_by, claim}
use Rattle.front.specs.Look.{Look, unsettled, gap, message, judged, look_by, look, tested_by, tested}

abbrev pub keep_fit : Fit → Fit → Fit
keep_fit Whole d = Whole
keep_fit Part d = d
keep_fit Bad d = Bad

pub fit_append : (t xs ys : List ℕ) → fit t (xs ++ ys) ≡ keep_fit (fit t xs) (fit t (xs ++ ys))
unfolding fit
fit_append [] xs ys = refl
fit_append (t ∷ ts) [] ys = refl
fit_append (t ∷ ts) (x ∷ xs) ys = go (eqb x t) _ _ (fit_append ts xs ys)
  where
    go : (b : Bool) (c d : Fit) → d ≡ keep_fit c d → cond b d Bad ≡ keep_fit (cond b c Bad) (cond b d Bad)
    go true c d h = h
    go false c d h = refl

abbrev pub keep_claim : Claim → Claim → Claim
keep_claim Nothing d = Nothing
keep_claim (AtLeast k) d = d
keep_claim (Long n) d = Long n

counted_append : (f : Form) (xs ys : List ℕ) → counted f (xs ++ ys) ≡ keep_claim (counted f xs) (counted f (xs ++ ys))
unfolding counted
counted_append f xs ys = go (ltb (count_at f) (length xs)) refl
  where
    known : ℕ → Claim
    known n = cond (leb n cap) (Long (size f n)) Nothing

    kept : (t : Bool) (n : ℕ) → cond t (Long n) Nothing ≡ keep_claim (cond t (Long n) Nothing) (cond t (Long n) Nothing)
    kept true n = refl
    kept false n = refl

    go : (t : Bool) → ltb (count_at f) (length xs) ≡ t
        → counted f (xs ++ ys) ≡ keep_claim (cond t (known (get_or xs (count_at f) 0)) (AtLeast (suc (count_at f)))) (counted f (xs ++ ys))
    go true e =
        let l : count_at f < length xs = ltb-true _ _ e in
        let l' : ltb (count_at f) (length (xs ++ ys)) ≡ true = lt-ltb (count_at f) (length (xs ++ ys)) (omega (arith, length-append xs ys)) in
        rw (l', get_or-append xs ys 0 (count_at f) l) (kept (leb (get_or xs (count_at f) 0) cap) (size f (get_or xs (count_at f) 0)))
    go false e = refl

pub claim_append : (xs ys : List ℕ) → claim (xs ++ ys) ≡ keep_claim (claim xs) (claim (xs ++ ys))
unfolding claim claim_by
claim_append xs ys = go (fit new_sync xs) (fit old_sync xs) _ _ (fit_append new_sync xs ys) (fit_append old_sync xs ys)
  where
    go : (a b a' b' : Fit) → a' ≡ keep_fit a a' → b' ≡ keep_fit b b' → claim_by a' b' (xs ++ ys) ≡ keep_claim (claim_by a b xs) (claim_by a' b' (xs ++ ys))
    go Whole b a' b' p q = rw p (counted_append (New 0 0) xs ys)
    go Part b a' b' p q = refl
    go Bad Whole a' b' p q = rw (p, q) (counted_append (Old 0) xs ys)
    go Bad Part a' b' p q = refl
    go Bad Bad a' b' p q = rw (p, q)

abbrev pub keep : Look → Look → Look
keep unsettled d = d
keep gap d = gap
keep (message n) d = message n

pub look_append : (xs ys : List ℕ) → look (xs ++ ys) ≡ keep (look xs) (look (xs ++ ys))
unfolding look look_by judged
look_append xs ys = go (claim xs) (claim (xs ++ ys)) (claim_append xs ys)
  where
    go : (c d : Claim) → d ≡ keep_claim c d → look_by d (xs ++ ys) ≡ keep (look_by c xs) (look_by d (xs ++ ys))
    go Nothing d p = rw p
    go (AtLeast k) d p = refl
    go (Long n) d p = rw p (test (leb n (length xs)) refl)
      where
        kept : (t : Bool) → cond t (message n) gap ≡ keep (cond t (message n) gap) (cond t (message n) gap)
        kept true = refl
        kept false = refl

        test : (t : Bool) → leb n (length xs) ≡ t
            → cond (leb n (length (xs ++ ys))) (judged n (xs ++ ys)) unsettled ≡ keep (cond t (judged n xs) unsettled) (cond (leb n (length (xs ++ ys))) (judged n (xs ++ ys)) unsettled)
        test true e =
            let l : n ≤ length xs = leb-true _ _ e in
            rw (le-leb n (length (xs ++ ys)) (omega (arith, length-append xs ys)), take-append-le n xs ys l) (kept (agrees (take n xs)))
        test false e = refl

-- and so do the bytes run through the checksum for it
abbrev pub keep_tested : Look → ℕ → ℕ → ℕ
keep_tested unsettled n m = m
keep_tested gap n m = n
keep_tested (message k) n m = n

pub tested_append : (xs ys : List ℕ) → tested (xs ++ ys) ≡ keep_tested (look xs) (tested xs) (tested (xs ++ ys))
unfolding tested tested_by look look_by judged
tested_append xs ys = go (claim xs) (claim (xs ++ ys)) (claim_append xs ys)
  where
    go : (c d : Claim) → d ≡ keep_claim c d → tested_by d (xs ++ ys) ≡ keep_tested (look_by c xs) (tested_by c xs) (tested_by d (xs ++ ys))
    go Nothing d p = rw p
    go (AtLeast k) d p = refl
    go (Long n) d p = rw p (test (leb n (length xs)) refl)
      where
        kept : (t : Bool) → covered n ≡ keep_tested (cond t (message n) gap) (covered n) (covered n)
        kept true = refl
        kept false = refl

        test : (t : Bool) → leb n (length xs) ≡ t
            → cond (leb n (length (xs ++ ys))) (covered n) 0 ≡ keep_tested (cond t (judged n xs) unsettled) (cond t (covered n) 0) (cond (leb n (length (xs ++ ys))) (covered n) 0)
        test true e =
            let l : n ≤ length xs = leb-true _ _ e in
            rw (le-leb n (length (xs ++ ys)) (omega (arith, length-append xs ys))) (kept (agrees (take n xs)))
        test false e = refl
