-- Where a run gives its messages, and where valid ones stand in the stream. Definitions only.
use Rattle.std.specs.Prelude.{ℕ, ◌+◌, ◌-◌, ◌≤◌, ◌<◌, ◌≡◌, ◌⊎◌, List, length}
use Rattle.octets.specs.Parts.{part}
use Rattle.macm.specs.Check.{verdict}
use Rattle.macm.specs.Answers.{check_number}
use Rattle.promises.specs.Run.{Run, refused, unfinished, ended, gave}

-- the message m is given, its first byte at position p of the stream
abbrev pub Given : Run → ℕ → List ℕ → Type 0
Given (refused r) p m = ⊥
Given unfinished p m = ⊥
Given (ended g) p m = ⊥
Given (gave g m' r) p m = ((p ≡ g) × (m ≡ m')) ⊎ ((g + length m' ≤ p) × Given r (p - (g + length m')) m)

-- no message given earlier covers position p
abbrev pub Uncovered : Run → ℕ → Type 0
Uncovered r p = (q : ℕ) (m : List ℕ) → Given r q m → q < p → q + length m ≤ p

-- m stands at position p of the stream, and is valid: the message check accepts it
pub record Valid (stream : List ℕ) (p : ℕ) (m : List ℕ) : Type 0 where
  pub stands : m ≡ part p (length m) stream
  pub accepted : check_number (verdict m) ≡ 0
