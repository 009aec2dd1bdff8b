-- What the private steps of the reader say of each other: no public contract cites these. Definitions only.
use Rattle.std.specs.Prelude.{ℕ, suc, ◌+◌, ◌-◌, ◌≤◌, ◌≡◌, Bool, cond, List, ◌++◌, length, take, drop, Ok}
use mir.Val.{bool_byte}
use Rattle.octets.specs.Parts.{over}
use Rattle.front.specs.Look.{need}
use Rattle.division.specs.Work.{tested_in}
use Rattle.stream.specs.declared.State.{State}
use Rattle.stream.specs.declared.Answer.{Answer}
use Rattle.stream.specs.declared.Answer.TheVariants.{NeedsMore, Message as Answered, End}
use Rattle.stream.specs.declared.Reply.{Reply}
use Rattle.stream.specs.declared.Counted.{Counted}
use Rattle.stream.specs.declared.Outcome.{Outcome}
use Rattle.stream.specs.declared.Outcome.TheVariants.{Message, Nothing}
use Rattle.stream.specs.Scan.{scan}
use Rattle.stream.specs.Feed.{Fed, given, more, fed}
use Rattle.stream.specs.Reader.{room, limit, most_summed}

-- what the checks let through
pub record Allowed (s : State) (w o p : ℕ) : Type 0 where
  pub window : room ≤ w
  pub output : room ≤ o
  pub held : s.held ≤ room
  pub sums : s.gap + s.held ≤ s.total
  pub fits : s.total + p ≤ limit
  pub counted : s.summed ≤ most_summed

-- n bytes xs at an unsettled position go to the front of the window w, and c bytes of the piece p behind them
pub record Pulled (n : ℕ) (xs w p : List ℕ) (c : ℕ) (w' : List ℕ) : Type 0 where
  pub bytes : take (n + c) w' ≡ xs ++ take c p
  pub same : length w' ≡ length w
  pub within : c ≤ length p
  pub fewest : n + c ≤ need xs
  pub all : c ≡ 0 → length p ≡ 0

-- ---- what a call comes to: of the piece p, from the window w and the output o
pub record Given (d : Fed) (p w o : List ℕ) (n g t h : ℕ) (w' o' : List ℕ) : Type 0 where
  pub message : List ℕ
  pub is : d ≡ given g message (take h w') (drop t p)
  pub size : length message ≡ n
  pub within : t ≤ length p
  pub held : h ≤ length w
  pub same : length w' ≡ length w
  pub output : o' ≡ over message o

abbrev pub CameTo : Fed → List ℕ → List ℕ → List ℕ → Outcome → List ℕ → List ℕ → Type 0
CameTo d p w o (Message n g t h) w' o' = Given d p w o n g t h w' o'
CameTo d p w o (Nothing g t h) w' o' = (d ≡ more g (take h w')) × (t ≡ length p) × (h ≤ length w) × (length w' ≡ length w) × (o' ≡ o)

-- ---- and the bytes that it has run through the checksum: those of the positions that it settled, with g₀ gap bytes before and the bytes xs to come
abbrev pub gap_in : Outcome → ℕ
gap_in (Message n g t h) = g
gap_in (Nothing g t h) = g

abbrev pub settled_in : ℕ → Outcome → ℕ
settled_in g₀ (Message n g t h) = suc (g - g₀)
settled_in g₀ (Nothing g t h) = g - g₀

pub record Tested (g₀ : ℕ) (xs : List ℕ) (x : Outcome) (summed : ℕ) : Type 0 where
  pub from_on : g₀ ≤ gap_in x
  pub sum : summed ≡ tested_in (settled_in g₀ x) xs

-- ---- a call that was let through, from the bytes held on
abbrev pub Begun : ℕ → ℕ → List ℕ → List ℕ → List ℕ → Type 0
Begun held gap p w o = (held ≤ room) × (room ≤ length w) × (room ≤ length o) × (gap + held + length p ≤ limit)

-- what it comes to, and the bytes that it has run through the checksum
abbrev pub Divided : Bool → ℕ → ℕ → List ℕ → List ℕ → List ℕ → Counted → List ℕ → List ℕ → Type 0
Divided ended held gap p w o r w' o' =
    CameTo (fed p (scan ended (take held w) gap)) p w o r.outcome w' o' × Tested gap (take held w ++ p) r.outcome r.summed

-- ---- the reply to it, of a finish or of a feed
abbrev pub no_message : Bool → ℕ → Answer
no_message ended g = cond ended (End g) NeedsMore

abbrev pub reply_to : ℕ → Bool → Outcome → ℕ → Reply
reply_to total ended (Message n g t h) summed =
    record { answer = Ok (Answered n g t); state = record { held = h; gap = 0; total = total + t; ended = bool_byte ended; summed = summed } }
reply_to total ended (Nothing g t h) summed =
    record { answer = Ok (no_message ended g); state = record { held = h; gap = g; total = total + t; ended = bool_byte ended; summed = summed } }

-- with what the call summed added to the state's count
abbrev pub reply_after : State → Bool → Counted → Reply
reply_after s ended c = reply_to s.total ended c.outcome (s.summed + c.summed)
