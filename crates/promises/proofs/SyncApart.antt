-- Sync strings start at least 3 bytes apart. Assumes nothing.
use Prim.Native.Nat.{ℕ, zero, suc, ◌+◌, ◌-◌, ◌≤◌, ◌<◌}
use mathlib.Core.Path.{◌≡◌, refl, sym, ap, ◌∙◌}
use mathlib.Core.List.{List, ◌++◌}
use native.Mathlib.Nat.{add-zero}
use native.Mathlib.Omega.{arith}
use lib.ListN.{get_or, drop, take-append-drop}
use lib.Seq.{get_or-drop}
use Rattle.macm.specs.declared.Form.{Form}
use Rattle.macm.specs.declared.Form.TheVariants.{New, Old}
use Rattle.promises.specs.Reason.{sync_of}
use Rattle.promises.specs.Work.{SyncAt}

-- both begin with MAC
letters : (xs : List ℕ) → SyncAt xs 0 → (get_or xs 0 0 ≡ 0x4D) × (get_or xs 1 0 ≡ 0x41) × (get_or xs 2 0 ≡ 0x43)
letters xs (f, e) = go f (sym (take-append-drop 4 xs) ∙ ap (λ l. l ++ drop 4 xs) e)
  where
    go : (f : Form) → xs ≡ sync_of f ++ drop 4 xs → (get_or xs 0 0 ≡ 0x4D) × (get_or xs 1 0 ≡ 0x41) × (get_or xs 2 0 ≡ 0x43)
    go (New signal tfom) q = (ap (λ l. get_or l 0 0) q, ap (λ l. get_or l 1 0) q, ap (λ l. get_or l 2 0) q)
    go (Old version) q = (ap (λ l. get_or l 0 0) q, ap (λ l. get_or l 1 0) q, ap (λ l. get_or l 2 0) q)

pub sync_apart : (s : List ℕ) (i j : ℕ) → SyncAt s i → SyncAt s j → i < j → i + 3 ≤ j
sync_apart s i j a b l =
    let x = letters (drop i s) a in
    let m : get_or s j 0 ≡ 0x4D = rw (get_or-drop j s 0 0, add-zero j) at (letters (drop j s) b).0 in
    go (j - i) refl m (rw (get_or-drop i s 1 0) at x.1) (rw (get_or-drop i s 2 0) at x.2)
  where
    go : (d : ℕ) → j - i ≡ d → get_or s j 0 ≡ 0x4D → get_or s (i + 1) 0 ≡ 0x41 → get_or s (i + 2) 0 ≡ 0x43 → i + 3 ≤ j
    go zero e m p q = omega arith
    go (suc zero) e m p q = let z : j ≡ i + 1 = omega arith in absurd (omega (arith, ap (λ k. get_or s k 0) z))
    go (suc (suc zero)) e m p q = let z : j ≡ i + 2 = omega arith in absurd (omega (arith, ap (λ k. get_or s k 0) z))
    go (suc (suc (suc d))) e m p q = omega arith
