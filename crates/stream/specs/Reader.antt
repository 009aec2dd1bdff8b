-- The stream reader's calls: what each answers and leaves in the state, the window and the output, on every input. Definitions only.
use Rattle.std.specs.Prelude.{ℕ, suc, ◌+◌, ◌-◌, ◌^◌, ◌≡◌, Bool, true, cond, List, ◌++◌, length, take, replicate, ltb, eqb, Result, Ok, Err}
use Rattle.octets.specs.Parts.{over}
use Rattle.division.specs.Work.{tested_in}
use Rattle.refusal.specs.declared.Refusal.{Refusal}
use Rattle.refusal.specs.declared.Refusal.TheVariants.{SmallBuffer, BadState, Ended, TooMuch}
use Rattle.stream.specs.declared.State.{State}
use Rattle.stream.specs.declared.Answer.{Answer}
use Rattle.stream.specs.declared.Answer.TheVariants.{NeedsMore, Message, End}
use Rattle.stream.specs.declared.Reply.{Reply}
use Rattle.stream.specs.Feed.{Fed, given, more, feed, finish}

-- the bytes that window and output must have, and the most bytes of a stream
abbrev pub room : ℕ
room = 6136

abbrev pub limit : ℕ
limit = 2 ^ 48

-- the most bytes run through the checksum that a state may have counted
abbrev pub most_summed : ℕ
most_summed = 2 ^ 60

abbrev pub fresh_state : State
fresh_state = record { held = 0; gap = 0; total = 0; ended = 0; summed = 0 }

-- ---- what is refused, in rising order
-- a held count above 6,136, a total above 2 ^ 48, a count of bytes summed above 2 ^ 60, or gap + held above total
abbrev pub bad : ℕ → ℕ → ℕ → ℕ → Bool
bad held gap total summed = cond (ltb room held) true (cond (ltb limit total) true (cond (ltb most_summed summed) true (ltb total (gap + held))))

-- 8: window or output has fewer than 6,136 bytes; 9: a bad state
unfoldable pub checked : State → ℕ → ℕ → Result Unit Refusal
checked s w o =
    cond (ltb w room) (Err SmallBuffer) (cond (ltb o room) (Err SmallBuffer) (cond (bad s.held s.gap s.total s.summed) (Err BadState) (Ok tt)))

-- 10: feed after the end was announced; 11: total + length of the offered piece is above 2 ^ 48
unfoldable pub feed_checked_by : Result Unit Refusal → State → ℕ → Result Unit Refusal
feed_checked_by (Err r) s p = Err r
feed_checked_by (Ok done) s p = cond (eqb s.ended 0) (cond (ltb limit (s.total + p)) (Err TooMuch) (Ok tt)) (Err Ended)

unfoldable pub feed_checked : State → ℕ → ℕ → ℕ → Result Unit Refusal
feed_checked s w o p = feed_checked_by (checked s w o) s p

-- ---- what a call comes to
pub record Call : Type 0 where
  pub answer : Result Answer Refusal
  pub state : State
  pub window : List ℕ
  pub output : List ℕ

abbrev pub reply_of : Call → Reply
reply_of c = record { answer = c.answer; state = c.state }

-- a call is as the code leaves it: what it returns, and what stands in the window and the output
pub record Leaves (c : Call) (r : Reply) (w o : List ℕ) : Type 0 where
  pub reply : r ≡ reply_of c
  pub window : w ≡ c.window
  pub output : o ≡ c.output

-- the held bytes at the front of the window, zeros behind them
unfoldable pub laid : List ℕ → List ℕ → List ℕ
laid h w = h ++ replicate (length w - length h) 0

-- a refusal gives the state back unchanged and changes no lent byte
abbrev pub refusal : Refusal → State → List ℕ → List ℕ → Call
refusal r s w o = record { answer = Err r; state = s; window = w; output = o }

-- the positions that a call has settled: those of the gap bytes that it adds, and the message's own
abbrev pub settled_since : ℕ → Fed → ℕ
settled_since gap (given g m h q) = suc (g - gap)
settled_since gap (more g h) = g - gap

-- the bytes summed after a call: what it was, and the covered bytes of the positions that the call has tested, of the bytes held and the piece
abbrev pub summed_after : State → List ℕ → Fed → ℕ
summed_after s xs d = s.summed + tested_in (settled_since s.gap d) xs

-- a message with its length, the gap before it and the bytes taken, after which no gap stands; or all of the piece is taken
abbrev pub fed_call : State → List ℕ → List ℕ → List ℕ → Fed → Call
fed_call s w o p (given g m h q) =
    let taken = length p - length q in
    let summed = summed_after s (take s.held w ++ p) (given g m h q) in
    record {
      answer = Ok (Message (length m) g taken);
      state = record { held = length h; gap = 0; total = s.total + taken; ended = 0; summed = summed };
      window = laid h w;
      output = over m o;
    }
fed_call s w o p (more g h) =
    let summed = summed_after s (take s.held w ++ p) (more g h) in
    record { answer = (Ok NeedsMore); state = record { held = length h; gap = g; total = s.total + length p; ended = 0; summed = summed }; window = laid h w; output = o }

abbrev pub feed_by : Result Unit Refusal → State → List ℕ → List ℕ → List ℕ → Call
feed_by (Err r) s p w o = refusal r s w o
feed_by (Ok done) s p w o = fed_call s w o p (feed (take s.held w) s.gap p)

unfoldable pub feed_call : State → List ℕ → List ℕ → List ℕ → Call
feed_call s p w o = feed_by (feed_checked s (length w) (length o) (length p)) s p w o

-- finishing marks the end; at the end nothing is held, and the gap count stays for the calls after it
abbrev pub finished_call : State → List ℕ → List ℕ → Fed → Call
finished_call s w o (given g m h q) =
    let summed = summed_after s (take s.held w) (given g m h q) in
    record {
      answer = Ok (Message (length m) g 0);
      state = record { held = length h; gap = 0; total = s.total; ended = 1; summed = summed };
      window = laid h w;
      output = over m o;
    }
finished_call s w o (more g h) =
    let summed = summed_after s (take s.held w) (more g h) in
    record { answer = Ok (End g); state = record { held = length h; gap = g; total = s.total; ended = 1; summed = summed }; window = laid h w; output = o }

abbrev pub finish_by : Result Unit Refusal → State → List ℕ → List ℕ → Call
finish_by (Err r) s w o = refusal r s w o
finish_by (Ok done) s w o = finished_call s w o (finish (take s.held w) s.gap)

unfoldable pub finish_call : State → List ℕ → List ℕ → Call
finish_call s w o = finish_by (checked s (length w) (length o)) s w o
