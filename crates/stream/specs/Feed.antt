-- A feed and a finish, of the bytes held, the gap bytes before them and the piece. Definitions only.
use Rattle.std.specs.Prelude.{ℕ, true, false, List, [], ◌∷◌, ◌++◌, take, drop}
use Rattle.stream.specs.Scan.{Scan, got, stop, scan}

-- a message is given: the gap before it, its bytes, the bytes held after it and the untaken rest of the piece;
-- or all of the piece is taken: the gap bytes so far and the bytes held
pub data Fed : Type 0 where
  given : ℕ → List ℕ → List ℕ → List ℕ → Fed
  more : ℕ → List ℕ → Fed

-- byte by byte, so that the fewest bytes are taken that settle the next message: none if the held ones settle it
unfoldable pub fed : List ℕ → Scan → Fed
fed [] (got g n r) = given g (take n r) (drop n r) []
fed [] (stop g r) = more g r
fed (b ∷ p) (got g n r) = given g (take n r) (drop n r) (b ∷ p)
fed (b ∷ p) (stop g r) = fed p (scan false (r ++ (b ∷ [])) g)

unfoldable pub feed : List ℕ → ℕ → List ℕ → Fed
feed held g p = fed p (scan false held g)

-- no byte will come
unfoldable pub finish : List ℕ → ℕ → Fed
finish held g = fed [] (scan true held g)
