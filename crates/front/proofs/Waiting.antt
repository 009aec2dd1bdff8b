-- A position stays unsettled until the bytes that it needs are here. Assumes nothing.
use Prim.Native.Nat.{ℕ, suc, ◌<◌}
use mathlib.Core.Path.{◌≡◌, refl}
use mathlib.Core.Bool.{Bool, true, false, cond}
use mathlib.Core.List.{List, [], ◌∷◌, ◌++◌, append-nil}
use native.Mathlib.Omega.{arith}
use lib.ListN.{length, get_or, length-append, get_or-append}
use lib.Dec.{ltb, leb}
use borrow.Author.Tests.{ltb-true, lt-ltb, le-ltb, lt-leb}
use Rattle.octets.specs.Begins.{fit}
use Rattle.octets.specs.declared.Fit.{Fit}
use Rattle.octets.specs.declared.Fit.TheVariants.{Whole, Part, Bad}
use Rattle.macm.specs.declared.Form.{Form}
use Rattle.macm.specs.declared.Form.TheVariants.{New, Old}
use Rattle.macm.specs.Form.{new_sync, old_sync, count_at, size}
use Rattle.front.specs.declared.Claim.TheVariants.{Nothing, AtLeast, Long}
use Rattle.front.specs.Claim.{cap, counted, claim_by, claim}
use Rattle.front.specs.Look.{unsettled, look_by, look, need_by, need}
use Rattle.front.proofs.Settled.{fit_append}

fit_whole : (t xs ys : List ℕ) → fit t xs ≡ Whole → fit t (xs ++ ys) ≡ Whole
fit_whole t xs ys e = rw e at (fit_append t xs ys)

fit_bad : (t xs ys : List ℕ) → fit t xs ≡ Bad → fit t (xs ++ ys) ≡ Bad
fit_bad t xs ys e = rw e at (fit_append t xs ys)

counted_wait : (f : Form) (xs ys : List ℕ) → length (xs ++ ys) < need_by (counted f xs) → look_by (counted f (xs ++ ys)) (xs ++ ys) ≡ unsettled
unfolding look_by need_by counted
counted_wait f xs ys = go (ltb (count_at f) (length xs)) refl (leb (get_or xs (count_at f) 0) cap) refl
  where
    go : (t : Bool) → ltb (count_at f) (length xs) ≡ t → (u : Bool) → leb (get_or xs (count_at f) 0) cap ≡ u
        → length (xs ++ ys) < need_by (cond t (cond u (Long (size f (get_or xs (count_at f) 0))) Nothing) (AtLeast (suc (count_at f))))
        → look_by (counted f (xs ++ ys)) (xs ++ ys) ≡ unsettled
    go true p true q l =
        let k : count_at f < length xs = ltb-true _ _ p in
        rw (lt-ltb (count_at f) (length (xs ++ ys)) (omega (arith, length-append xs ys)), get_or-append xs ys 0 (count_at f) k, q, lt-leb (size f (get_or xs (count_at f) 0)) (length (xs ++ ys)) l)
    go true p false q l = absurd (omega arith)
    go false p u q l = rw (le-ltb (count_at f) (length (xs ++ ys)) (omega arith))

pub look_wait : (xs ys : List ℕ) → length (xs ++ ys) < need xs → look (xs ++ ys) ≡ unsettled
unfolding look look_by need need_by claim claim_by
look_wait xs ys = go (fit new_sync xs) refl (fit old_sync xs) refl
  where
    none_more : (ys : List ℕ) → length (xs ++ ys) < suc (length xs) → ys ≡ []
    none_more [] l = refl
    none_more (y ∷ ys) l = absurd (omega (arith, length-append xs (y ∷ ys)))

    go : (a : Fit) → fit new_sync xs ≡ a → (b : Fit) → fit old_sync xs ≡ b → length (xs ++ ys) < need_by (claim_by a b xs) → look (xs ++ ys) ≡ unsettled
    go Whole p b q l = rw (fit_whole new_sync xs ys p) (counted_wait (New 0 0) xs ys l)
    go Part p b q l = rw (none_more ys l, append-nil xs, p)
    go Bad p Whole q l = rw (fit_bad new_sync xs ys p, fit_whole old_sync xs ys q) (counted_wait (Old 0) xs ys l)
    go Bad p Part q l = rw (none_more ys l, append-nil xs, p, q)
    go Bad p Bad q l = absurd (omega arith)
