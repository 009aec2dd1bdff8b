-- E1, clause by clause: the reason at a position of a recording. Assumes nothing.
use Rattle.std.specs.Prelude.{Result}
use Prim.Native.Nat.{ℕ, ◌-◌, ◌≤◌, ◌<◌}
use mathlib.Core.Path.{◌≡◌, sym, ap, ◌∙◌}
use mathlib.Core.List.{List}
use native.Mathlib.Omega.{arith}
use lib.ListN.{length, take, drop}
use Rattle.octets.specs.Numbers.{Bytes}
use Rattle.reason.specs.declared.Reason.{Reason}
use Rattle.reason.specs.Reason.{here_of, reason_of}
use Rattle.promises.specs.Given.{Uncovered}
use Rattle.promises.specs.Reason.{messages, Holds, shifted, CoverBegins}
use Rattle.promises.proofs.FirstBytes.{here_front}
use Rattle.promises.proofs.ReasonHolds.{here_of_lem, holds, only}
use Rattle.promises.proofs.ReasonOfPart.{part_says}
use Rattle.refusal.specs.declared.Refusal.{Refusal}

-- what it says of the position is true of the division and of the bytes
pub reason_holds : (s : List ℕ) (p : ℕ) → Bytes s → Holds s p (reason_of s p)
reason_holds s p b = holds s p b

-- and just one applies
pub just_one : (s : List ℕ) (p : ℕ) → Bytes s → (a b : Result Reason Refusal) → Holds s p a → Holds s p b → a ≡ b
just_one s p bytes a b h k = sym (only s p bytes a h) ∙ only s p bytes b k

-- what is said of a position that no given message covers depends on the bytes from it on alone: of these on no more than the longest message has
module _ (s t : List ℕ) (p q : ℕ) (s-uncovered : Uncovered (messages s) p) (t-uncovered : Uncovered (messages t) q) where
  pub by_the_bytes_from_there_on : drop p s ≡ drop q t → reason_of s p ≡ reason_of t q
  by_the_bytes_from_there_on e = here_of_lem s p s-uncovered ∙ ap here_of e ∙ sym (here_of_lem t q t-uncovered)

  pub by_no_more_than_a_message : take 6136 (drop p s) ≡ take 6136 (drop q t) → reason_of s p ≡ reason_of t q
  by_no_more_than_a_message e =
      here_of_lem s p s-uncovered ∙ sym (here_front (drop p s) 6136 (omega arith)) ∙ ap here_of e ∙ here_front (drop q t) 6136 (omega arith) ∙ sym (here_of_lem t q t-uncovered)

-- so a part of a long recording tells it: k bytes, from the first of the message that covers the position, or from the position where none does
pub a_part_tells : (s : List ℕ) (p q k : ℕ) → p < length s → CoverBegins s p q → 6136 ≤ k → reason_of s p ≡ shifted q (reason_of (take k (drop q s)) (p - q))
a_part_tells s p q k l h long = part_says s p q k l h long
