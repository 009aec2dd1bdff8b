-- What each position of a stream has run through the checksum, where sync strings stand, and a stream that is crowded with them. Definitions only.
use Rattle.std.specs.Prelude.{ℕ, zero, suc, ◌+◌, ◌≡◌, cond, List, [], ◌∷◌, take, drop, eqb}
use Rattle.macm.specs.declared.Form.{Form}
use Rattle.front.specs.Look.{tested}
use Rattle.reason.specs.Reason.{cover_of}
use Rattle.promises.specs.Reason.{sync_of}

-- the bytes that position p has run through the checksum: none where a message given earlier covers it
abbrev pub tested_at : List ℕ → ℕ → ℕ
tested_at s p = cond (eqb (cover_of s p) p) (tested (drop p s)) 0

-- the sum over the n positions from `at` on
unfoldable pub sum_over : ℕ → ℕ → (ℕ → ℕ) → ℕ
sum_over zero at f = 0
sum_over (suc n) at f = f at + sum_over n (suc at) f

-- MAC2 or MACM stands at position i
abbrev pub SyncAt : List ℕ → ℕ → Type 0
SyncAt s i = (f : Form) × (take 4 (drop i s) ≡ sync_of f)

-- MACM, the VERSION 0 and the count 255, k times
unfoldable pub crowded : ℕ → List ℕ
crowded zero = []
crowded (suc k) = 0x4D ∷ 0x41 ∷ 0x43 ∷ 0x4D ∷ 0 ∷ 0xFF ∷ crowded k
