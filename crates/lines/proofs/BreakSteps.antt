-- Three numbers of a list as a break's row: what comes next of it, and what is left. Assumes nothing.
use Prim.Native.Nat.{ℕ, suc, ◌+◌, ◌*◌, ◌≤◌, ◌<◌}
use mathlib.Core.Path.{◌≡◌, sym, ap, ◌∙◌}
use mathlib.Core.List.{List, ◌++◌}
use native.Mathlib.Omega.{arith}
use native.Mathlib.Nat.{add-zero}
use lib.ListN.{length, get_or, take, drop, length-drop, length-append, get_or-append}
use lib.Seq.{get_or-take, get_or-drop, drop-drop, drop_at, length-take-le}
use Rattle.lines.specs.Breaks.{break_text}

module _ (k count : ℕ) (list row rest : List ℕ) (holds : 3 * count ≤ length list) (comes : drop (3 * k) (take (3 * count) list) ≡ row ++ rest) (three : length row ≡ 3) where
  pub row_within : suc k ≤ count
  row_within = omega (arith, ap length comes, length-drop (3 * k) (take (3 * count) list), length-take-le (3 * count) list holds, length-append row rest, three)

  pub row_rest : rest ≡ drop (3 * suc k) (take (3 * count) list)
  row_rest =
      let place : 3 * k + 3 ≡ 3 * suc k = omega arith in
      sym (sym (drop-drop 3 (3 * k) (take (3 * count) list) ∙ ap (λ j. drop j (take (3 * count) list)) place) ∙ ap (drop 3) comes ∙ drop_at row rest 3 three)

  number : (i : ℕ) → i < 3 → get_or row i 0 ≡ get_or list (3 * k + i) 0
  number i l =
      sym (get_or-append row rest 0 i (omega (arith, three)))
      ∙ ap (λ r. get_or r i 0) (sym comes)
      ∙ get_or-drop (3 * k) (take (3 * count) list) i 0
      ∙ get_or-take (3 * count) list (3 * k + i) 0 (omega (arith, row_within))

  pub row_break : (position : ℕ) → break_text position (get_or row 0 0) (get_or row 1 0) (get_or row 2 0) ≡ break_text position (get_or list (3 * k) 0) (get_or list (3 * k + 1) 0) (get_or list (3 * k + 2) 0)
  row_break position =
      let z : 3 * k + 0 ≡ 3 * k = add-zero (3 * k) in
      rw (number 0 (omega arith), number 1 (omega arith), number 2 (omega arith), z)
