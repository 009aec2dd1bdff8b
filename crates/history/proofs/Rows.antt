-- Three words from a place on as a row of a table: read, and put. Assumes nothing.
use borrow.Rule.Slice.PartMut.{put_mid}
use Prim.Native.Nat.{ℕ, ◌+◌, ◌-◌, ◌<◌}
use mathlib.Core.Path.{◌≡◌, ap, ◌∙◌}
use mathlib.Core.List.{List, [], ◌∷◌}
use native.Mathlib.Omega.{arith}
use native.Mathlib.Nat.{add-zero}
use lib.ListN.{get_or, take, drop}
use lib.Seq.{get_or-take, get_or-drop}
use Rattle.octets.specs.Parts.{put}
use Rattle.octets.proofs.Parts.{mid_put}
use Rattle.history.specs.Words.{last_from}

module _ (at : ℕ) (ws : List ℕ) where
  row : List ℕ
  row = take (at + 3 - at) (drop at ws)

  word : (i : ℕ) → i < 3 → get_or row i 0 ≡ get_or ws (at + i) 0
  unfolding row
  word i l = get_or-take (at + 3 - at) (drop at ws) i 0 (omega arith) ∙ get_or-drop at ws i 0

  pub row_last : last_from (take (at + 3 - at) (drop at ws)) 0 ≡ last_from ws at
  unfolding row
  row_last =
      let seen = word 0 (omega arith) ∙ ap (λ k. get_or ws k 0) (add-zero at) in
      let time = word 1 (omega arith) in
      let lock = word 2 (omega arith) in
      λ i. record { seen = seen i; time = time i; lock = lock i }

  pub row_put : (new : List ℕ) (a b c : ℕ) → new ≡ a ∷ b ∷ c ∷ [] → put_mid at (at + 3 - at) ws new ≡ put at (a ∷ b ∷ c ∷ []) ws
  row_put new a b c e = ap (put_mid at (at + 3 - at) ws) e ∙ mid_put at (at + 3 - at) ws (a ∷ b ∷ c ∷ []) (omega arith)
