-- Over the settled gap positions of held bytes, to a message or to the first position that is not settled. Definitions only.
use Rattle.std.specs.Prelude.{ℕ, suc, Bool, true, false, List, [], ◌∷◌}
use Rattle.front.specs.Look.{Look, unsettled, gap, message, look}

-- at the end of the stream a position that is unsettled, which is so only for want of bytes, is settled as gap
unfoldable pub settle : Bool → Look → Look
settle false l = l
settle true unsettled = gap
settle true gap = gap
settle true (message n) = message n

-- what the first position is, with more bytes to come (false) or none (true)
unfoldable pub seen : Bool → List ℕ → Look
seen ended xs = settle ended (look xs)

-- a message: the gap bytes before it, its length, the bytes from its first on; or none: the gap bytes, the bytes from the unsettled position on
pub data Scan : Type 0 where
  got : ℕ → ℕ → List ℕ → Scan
  stop : ℕ → List ℕ → Scan

unfoldable pub scanned : Look → ℕ → List ℕ → Scan → Scan
scanned unsettled g xs on = stop g xs
scanned gap g xs on = on
scanned (message n) g xs on = got g n xs

-- positions are settled in turn, none while an earlier one is open; g gap bytes stand before
unfoldable pub scan : Bool → List ℕ → ℕ → Scan
scan ended [] g = stop g []
scan ended (x ∷ xs) g = let on = scan ended xs (suc g) in scanned (seen ended (x ∷ xs)) g (x ∷ xs) on
