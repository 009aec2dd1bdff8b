-- A run of calls over the pieces of a stream, as a host makes them. Definitions only.
use Rattle.std.specs.Prelude.{ℕ, zero, suc, ◌+◌, List, [], ◌∷◌, length, take, drop, Result, Ok, Err}
use Rattle.division.specs.Division.{divide}
use Rattle.promises.specs.Joined.{joined}
use Rattle.promises.specs.Run.{Run, count, refused, unfinished, ended, gave}
use Rattle.stream.specs.declared.State.{State}
use Rattle.stream.specs.declared.Answer.{Answer}
use Rattle.stream.specs.declared.Answer.TheVariants.{NeedsMore, Message, End}
use Rattle.stream.specs.Reader.{Call, fresh_state, feed_call, finish_call}
use Rattle.refusal.specs.declared.Refusal.{Refusal}

-- the untaken rest of a piece is offered again; an empty rest is not
unfoldable pub offer : List ℕ → List (List ℕ) → List (List ℕ)
offer [] ps = ps
offer (b ∷ p) ps = (b ∷ p) ∷ ps

-- what calls come to, and the state that the last of them leaves
pub record Made : Type 0 where
  pub run : Run
  pub state : State

abbrev pub behind : ℕ → List ℕ → Made → Made
behind g m later = record { run = gave g m later.run; state = later.state }

-- a host goes on from the state and the window that the call before left, with the pieces to come
abbrev pub Host : Type 0
Host = State → List ℕ → List (List ℕ) → Made

unfoldable pub after_feed : Host → List ℕ → List (List ℕ) → Result Answer Refusal → Call → Made
after_feed go p ps (Err r) c = record { run = refused r; state = c.state }
after_feed go p ps (Ok NeedsMore) c = go c.state c.window ps
after_feed go p ps (Ok (Message n g t)) c = behind g (take n c.output) (go c.state c.window (offer (drop t p) ps))
after_feed go p ps (Ok (End g)) c = record { run = unfinished; state = c.state }

unfoldable pub after_finish : Host → Result Answer Refusal → Call → Made
after_finish go (Err r) c = record { run = refused r; state = c.state }
after_finish go (Ok NeedsMore) c = record { run = unfinished; state = c.state }
after_finish go (Ok (Message n g t)) c = behind g (take n c.output) (go c.state c.window [])
after_finish go (Ok (End g)) c = record { run = ended g; state = c.state }

-- at most so many calls: the pieces in order, the rest of each again, then finishing until the end is answered. Each call is lent an output of its own:
-- somebody else may touch it between calls
unfoldable pub calls : ℕ → (ℕ → List ℕ) → Host
calls zero outputs s w ps = record { run = unfinished; state = s }
calls (suc n) outputs s w [] = let c = finish_call s w (outputs n) in after_finish (calls n outputs) c.answer c
calls (suc n) outputs s w (p ∷ ps) = let c = feed_call s p w (outputs n) in after_feed (calls n outputs) p ps c.answer c

module _ (pieces : List (List ℕ)) (window : List ℕ) (outputs : ℕ → List ℕ) where
  abbrev pub uncut : List ℕ
  uncut = joined pieces

  -- k pieces holding m messages, in at most k + m + 1 calls: each piece is fed, its untaken rest is offered again and an empty rest is not, then the
  -- stream is finished until the end is answered; from a fresh state, and each call goes on from the state and the window that the one before left
  abbrev pub made : Made
  made = calls (length pieces + count (divide uncut 0) + 1) outputs fresh_state window pieces
