-- Demand 3, clause by clause, of the run that a host makes. Assumes nothing.
use Prim.Native.Nat.{ℕ, ◌+◌, ◌-◌, ◌*◌, ◌/◌, ◌^◌, ◌≤◌}
use mathlib.Core.Path.{◌≡◌, sym, ap, ◌∙◌}
use mathlib.Core.List.{List}
use native.Mathlib.Omega.{arith}
use lib.ListN.{length}
use Rattle.octets.specs.Numbers.{Bytes}
use Rattle.division.specs.Division.{divide}
use Rattle.division.specs.Work.{work_of}
use Rattle.stream.specs.Reader.{fresh_state}
use Rattle.promises.specs.Joined.{joined}
use Rattle.promises.specs.Run.{Run, as_run, count, NeverRefused, Finished, lengths_and_gaps, read_plain}
use Rattle.promises.specs.Given.{Given, Uncovered, Valid}
use Rattle.promises.specs.Calls.{Made, calls}
use Rattle.promises.specs.Calls as calling
use Rattle.promises.proofs.AnyCut.{calls_right, calls_summed}
use Rattle.promises.proofs.WorkBound.{work_at_most}
use Rattle.promises.proofs.PlainSame.{plain_right}
use Rattle.promises.proofs.GivenIff.{valid_if_given, given_if_valid}
use Rattle.promises.proofs.AsRun.{never_refused, finished, all_bytes}

-- A stream of at most 2^48 bytes, cut into pieces anywhere; a window and outputs as large as 01 asks, whatever stands in them. A piece may be empty,
-- so a host who does offer an empty rest again is one with a piece more.
module _ (pieces : List (List ℕ)) (window : List ℕ) (outputs : ℕ → List ℕ)
    (stream-at-most : length (joined pieces) ≤ 2 ^ 48) (window-large : 6136 ≤ length window) (outputs-large : (i : ℕ) → 6136 ≤ length (outputs i)) where
  abbrev pub uncut : List ℕ
  uncut = joined pieces

  -- in at most so many calls, from a fresh state
  abbrev pub made : Made
  made = calling.made pieces window outputs

  abbrev pub run : Run
  run = made.run

  -- the messages and the gaps before them are those of 01's division of the uncut stream
  pub any_cut : run ≡ as_run (divide uncut 0)
  any_cut = calls_right outputs outputs-large pieces window window-large stream-at-most (length pieces + count (divide uncut 0) + 1) (omega arith)

  -- where the stream is one slice, the plain reader, started at 0 and then at each message's end, gives the same
  pub plain_same : read_plain (count (divide uncut 0) + 1) uncut 0 ≡ run
  plain_same = plain_right uncut (count (divide uncut 0) + 1) (omega arith) ∙ sym any_cut

  -- a message is given exactly where a valid one stands whose first byte no earlier given message covers
  pub given_then : (p : ℕ) (m : List ℕ) → Given run p m → Valid uncut p m × Uncovered run p
  given_then p m h = rw any_cut (valid_if_given uncut p m (rw any_cut at h))

  pub given_if : Bytes uncut → (p : ℕ) (m : List ℕ) → Valid uncut p m → Uncovered run p → Given run p m
  given_if b p m v u = rw any_cut (given_if_valid uncut p m b v (rw any_cut at u))

  -- lengths and gaps add up to all the bytes fed
  pub adds_up : lengths_and_gaps run ≡ length uncut
  adds_up = ap lengths_and_gaps any_cut ∙ all_bytes uncut

  -- no call of the run is refused
  pub no_call_is_refused : NeverRefused run
  no_call_is_refused = rw any_cut (never_refused (divide uncut 0))

  -- so many calls come to the end, and to allow more changes nothing
  pub comes_to_the_end : Finished run
  comes_to_the_end = rw any_cut (finished (divide uncut 0))

  pub makes_no_more_calls : (n : ℕ) → length pieces + count (divide uncut 0) + 1 ≤ n → (calls n outputs fresh_state window pieces).run ≡ run
  makes_no_more_calls n l = calls_right outputs outputs-large pieces window window-large stream-at-most n l ∙ sym any_cut

  -- the state that the run leaves has counted the covered bytes of each position that the division tests, once: whatever the cutting
  pub counts_the_work : made.state.summed ≡ work_of uncut
  counts_the_work = calls_summed outputs outputs-large pieces window window-large stream-at-most (length pieces + count (divide uncut 0) + 1) comes_to_the_end

  -- which is at most 6,131 for every 3 bytes behind the first
  pub counts_at_most : made.state.summed ≤ 6131 * ((length uncut - 1) / 3)
  counts_at_most = rw counts_the_work (work_at_most uncut)
