-- The plain reader, started at 0 and then at each message's end, gives the messages, gaps and end of the division, and is never refused.
-- Assumes nothing.
use Prim.Native.Nat.{ℕ, zero, suc, ◌+◌, ◌≤◌, ◌<◌}
use mathlib.Core.Path.{◌≡◌, sym, ap, ◌∙◌}
use mathlib.Core.Bool.{true}
use mathlib.Core.List.{List}
use native.Mathlib.Omega.{arith}
use lib.ListN.{length, take, drop, length-drop}
use Rattle.division.specs.declared.Walked.{Walked}
use Rattle.division.specs.declared.Walked.TheVariants.{Message, Unsettled}
use Rattle.division.specs.Division.{divide}
use Rattle.division.specs.Walk.{walk_of}
use Rattle.division.proofs.PlainSteps.{Ends, walk_ends, passed_is, next_given, next_end}
use Rattle.promises.specs.Run.{ended, gave, as_run, count, read_on, read_plain}

-- ---- and its calls, one after the other, are the division
module _ (s : List ℕ) where
  plain_from : (c start : ℕ) → start ≤ length s → count (divide (drop start s) 0) < c → read_plain c s start ≡ as_run (divide (drop start s) 0)
  unfolding read_plain read_on as_run
  plain_from zero start l m = absurd (omega arith)
  plain_from (suc c) start l m = go (walk_of true (drop start s) 0 0) (walk_ends (drop start s) 0 0) (plain_from c)
    where
      go : (w : Walked) → Ends (drop start s) 0 w → ((start : ℕ) → start ≤ length s → count (divide (drop start s) 0) < c → read_plain c s start ≡ as_run (divide (drop start s) 0))
          → read_plain (suc c) s start ≡ as_run (divide (drop start s) 0)
      go (Message k n t) f ih =
          let d = passed_is s start k n f in
          let q : count (divide (drop (start + k + n) s) 0) < c = omega (arith, ap count d) in
          ap (read_on s (read_plain c s)) (sym (next_given s start l k n f))
          ∙ ap (gave k (take n (drop (start + k) s))) (ih (start + k + n) (omega (arith, f.within, length-drop start s)) q) ∙ ap as_run (sym d)
      go (Unsettled k) f ih = ap (read_on s (read_plain c s)) (sym (next_end s start l k f)) ∙ ap ended f.0 ∙ ap as_run (sym (f.1 0))

  pub plain_right : (c : ℕ) → count (divide s 0) + 1 ≤ c → read_plain c s 0 ≡ as_run (divide s 0)
  plain_right c l = plain_from c 0 (omega arith) (omega arith)
