-- What can be said of the first position of a list, when more bytes may follow. Definitions only.
use Rattle.std.specs.Prelude.{ℕ, cond, List, length, take, leb}
use Rattle.macm.specs.Check.{covered, agrees}
use Rattle.front.specs.declared.Claim.{Claim}
use Rattle.front.specs.declared.Claim.TheVariants.{Nothing, AtLeast, Long}
use Rattle.front.specs.Claim.{claim}

-- not settled for want of bytes; settled as gap; settled as a message of so many bytes
pub data Look : Type 0 where
  unsettled : Look
  gap : Look
  message : ℕ → Look

-- the whole length is here: the checksum settles it
unfoldable pub judged : ℕ → List ℕ → Look
judged n xs = cond (agrees (take n xs)) (message n) gap

-- gap as soon as one byte contradicts both sync strings; else by the checksum once the whole length is here
unfoldable pub look_by : Claim → List ℕ → Look
look_by Nothing xs = gap
look_by (AtLeast k) xs = unsettled
look_by (Long n) xs = let j = judged n xs in cond (leb n (length xs)) j unsettled

unfoldable pub look : List ℕ → Look
look xs = look_by (claim xs) xs

-- the bytes that are run through the checksum to settle it: those that it covers, where a sync string stands and the whole length is here; else none
unfoldable pub tested_by : Claim → List ℕ → ℕ
tested_by Nothing xs = 0
tested_by (AtLeast k) xs = 0
tested_by (Long n) xs = cond (leb n (length xs)) (covered n) 0

unfoldable pub tested : List ℕ → ℕ
tested xs = tested_by (claim xs) xs

-- the bytes that have to be here before more can be said
unfoldable pub need_by : Claim → ℕ
need_by Nothing = 0
need_by (AtLeast k) = k
need_by (Long n) = n

unfoldable pub need : List ℕ → ℕ
need xs = need_by (claim xs)
