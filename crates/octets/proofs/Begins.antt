-- How bytes begin, by how many of the first are those of the string. Assumes nothing.
use Prim.Native.Nat.{ℕ, zero, suc, ◌≤◌, ◌<◌}
use mathlib.Core.Path.{◌≡◌, refl, sym, ap, ap₂, ◌∙◌}
use mathlib.Core.Bool.{Bool, true, false, cond}
use mathlib.Core.List.{List, [], ◌∷◌}
use native.Mathlib.Omega.{arith}
use lib.ListN.{length, get_or, take}
use lib.Seq.{take-take}
use lib.Dec.{eqb}
use Rattle.std.specs.List.{starts_with}
use borrow.Author.Tests.{eqb-true, eqb-false, eq-eqb, ne_eqb}
use Rattle.octets.specs.declared.Fit.{Fit}
use Rattle.octets.specs.declared.Fit.TheVariants.{Whole, Part, Bad}
use Rattle.octets.specs.Begins.{common, fit, is_whole, begins}

heads : {x y : ℕ} {xs ys : List ℕ} → x ∷ xs ≡ y ∷ ys → x ≡ y
heads e = ap (λ l. get_or l 0 0) e

tails : {x y : ℕ} {xs ys : List ℕ} → x ∷ xs ≡ y ∷ ys → xs ≡ ys
tails e = ap tail e
  where
    tail : List ℕ → List ℕ
    tail [] = []
    tail (x ∷ xs) = xs

-- what the first k bytes are, the first j are too
pub take_fewer : (j k : ℕ) (xs ys : List ℕ) → j ≤ k → take k xs ≡ take k ys → take j xs ≡ take j ys
take_fewer j k xs ys l e = sym (take-take j k xs l) ∙ ap (take j) e ∙ take-take j k ys l

-- ---- the bytes that are common are the same, and no more of the first are
pub common_take : (t s : List ℕ) → take (common t s) s ≡ take (common t s) t
unfolding common
common_take [] s = refl
common_take (t ∷ ts) [] = refl
common_take (t ∷ ts) (x ∷ xs) = go (eqb x t) refl (common_take ts xs)
  where
    go : (b : Bool) → eqb x t ≡ b → take (common ts xs) xs ≡ take (common ts xs) ts → take (cond b (suc (common ts xs)) 0) (x ∷ xs) ≡ take (cond b (suc (common ts xs)) 0) (t ∷ ts)
    go true e h = ap₂ (λ y l. y ∷ l) (eqb-true x t e) h
    go false e h = refl

pub take_common : (t s : List ℕ) (k : ℕ) → k ≤ length s → k ≤ length t → take k s ≡ take k t → k ≤ common t s
unfolding common
take_common t s zero l m e = omega arith
take_common [] s (suc k) l m e = absurd (omega arith)
take_common (t ∷ ts) [] (suc k) l m e = absurd (omega arith)
take_common (t ∷ ts) (x ∷ xs) (suc k) l m e = rw (eq-eqb x t (heads e)) (omega (arith, take_common ts xs k (omega arith) (omega arith) (tails e)))

pub common_within : (t s : List ℕ) → (common t s ≤ length t) × (common t s ≤ length s)
unfolding common
common_within [] s = (omega arith, omega arith)
common_within (t ∷ ts) [] = (omega arith, omega arith)
common_within (t ∷ ts) (x ∷ xs) = go (eqb x t) (common_within ts xs)
  where
    go : (b : Bool) → (common ts xs ≤ length ts) × (common ts xs ≤ length xs) → (cond b (suc (common ts xs)) 0 ≤ length (t ∷ ts)) × (cond b (suc (common ts xs)) 0 ≤ length (x ∷ xs))
    go true h = (omega (arith, h.0), omega (arith, h.1))
    go false h = (omega arith, omega arith)

-- ---- how bytes begin, by that number
abbrev pub Fits : List ℕ → List ℕ → Fit → Type 0
Fits t s Whole = common t s ≡ length t
Fits t s Part = (common t s ≡ length s) × (length s < length t)
Fits t s Bad = (common t s < length t) × (common t s < length s)

pub fit_common : (t s : List ℕ) → Fits t s (fit t s)
unfolding common fit
fit_common [] s = refl
fit_common (t ∷ ts) [] = (refl, omega arith)
fit_common (t ∷ ts) (x ∷ xs) = go (eqb x t) refl (fit ts xs) (fit_common ts xs)
  where
    go : (b : Bool) → eqb x t ≡ b → (f : Fit) → Fits ts xs f → Fits (t ∷ ts) (x ∷ xs) (cond b f Bad)
    go true e Whole h = rw e (omega (arith, h))
    go true e Part h = rw e (omega (arith, h.0), omega (arith, h.1))
    go true e Bad h = rw e (omega (arith, h.0), omega (arith, h.1))
    go false e f h = rw e (omega arith, omega arith)

-- and from that number
module _ (t s : List ℕ) where
  pub common_bad : common t s < length t → common t s < length s → Bad ≡ fit t s
  common_bad l m = go (fit t s) (fit_common t s)
    where
      go : (f : Fit) → Fits t s f → Bad ≡ f
      go Whole h = absurd (omega (arith, h))
      go Part h = absurd (omega (arith, h.0))
      go Bad h = refl

  -- a beginning of the string is no contradiction
  pub begins_part : length s < length t → take (length s) s ≡ take (length s) t → Part ≡ fit t s
  begins_part l e = go (fit t s) (fit_common t s) (take_common t s (length s) (omega arith) (omega arith) e)
    where
      go : (f : Fit) → Fits t s f → length s ≤ common t s → Part ≡ f
      go Whole h m = absurd (omega (arith, h, (common_within t s).1))
      go Part h m = refl
      go Bad h m = absurd (omega (arith, h.1))

-- std's `starts_with`
pub begins_is : (t s : List ℕ) → starts_with eqb s t ≡ begins t s
unfolding fit
begins_is [] s = refl
begins_is (t ∷ ts) [] = refl
begins_is (t ∷ ts) (x ∷ xs) = go (eqb x t) refl (begins_is ts xs)
  where
    go : (b : Bool) → eqb x t ≡ b → starts_with eqb xs ts ≡ begins ts xs → starts_with eqb (x ∷ xs) (t ∷ ts) ≡ is_whole (cond b (fit ts xs) Bad)
    go true e h = rw (eq-eqb t x (sym (eqb-true x t e))) h
    go false e h = rw (ne_eqb t x (λ q. eqb-false x t e (sym q)))
