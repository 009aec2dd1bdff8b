-- Of a message that the division gives, the programs print what the two readings say, though they run no checksum again. Assumes nothing.
use Rattle.std.specs.Prelude.{Result, Ok, Err}
use Prim.Native.Nat.{ℕ, zero, suc}
use mathlib.Core.Path.{◌≡◌, refl, sym, ap, ap₂, ◌∙◌}
use mathlib.Core.List.{List, ◌++◌}
use native.Mathlib.Omega.{arith}
use lib.ListN.{length}
use Rattle.refusal.proofs.Numbered.{positive}
use Rattle.macm.specs.declared.Form.{Form}
use Rattle.macm.specs.Check.{verdict}
use Rattle.macm.specs.Answers.{check_number}
use Rattle.macm.specs.Read.{header_of}
use Rattle.macm.proofs.ReadSteps.{head_accepted, claimed_head_lem, observed_accepted}
use Rattle.lines.specs.Listing.{line_text, head_line}
use Rattle.lines.specs.Rows.{head_text, row_text, rows_up_to, head_rows, rows_text}
use Rattle.promises.specs.Given.{Given}
use Rattle.promises.specs.Reason.{messages}
use Rattle.promises.specs.Printed.{line_read, rows_read_up_to, rows_read_by, rows_read}
use Rattle.promises.proofs.GivenIff.{valid_if_given}
use Rattle.refusal.specs.declared.Refusal.{Refusal}

module _ (position : ℕ) (m : List ℕ) where
  module _ (f : Form) (n : ℕ) (accepted : verdict m ≡ Ok (f, n)) where
    rows_up_to_lem : (k : ℕ) (head : List ℕ) → rows_up_to k head f n m ≡ rows_read_up_to k head f m
    unfolding rows_up_to rows_read_up_to
    rows_up_to_lem zero head = refl
    rows_up_to_lem (suc k) head = ap₂ (λ r o. r ++ row_text head f o) (rows_up_to_lem k head) (observed_accepted m k f n accepted)

    rows_as : rows_text position m ≡ rows_read position m
    unfolding header_of
    rows_as =
        let h = head_accepted m f n accepted in
        ap (λ r. head_rows position r m) (claimed_head_lem m f n accepted ∙ sym h) ∙ rows_up_to_lem n (head_text position (header_of f m)) ∙ ap (λ r. rows_read_by position r m) h

  read_so : {A : Type 0} (x y : A) → ((f : Form) (n : ℕ) → verdict m ≡ Ok (f, n) → x ≡ y) → check_number (verdict m) ≡ 0 → x ≡ y
  read_so {A} x y as_read = go (verdict m) refl
    where
      go : (v : Result (Form × ℕ) Refusal) → verdict m ≡ v → check_number v ≡ 0 → x ≡ y
      go (Err r) e z = absurd (omega (arith, positive r))
      go (Ok (f, n)) e z = as_read f n e

  module _ (recording : List ℕ) (given : Given (messages recording) position m) where
    accepted : check_number (verdict m) ≡ 0
    accepted = (valid_if_given recording position m given).0.accepted

    pub line_printed : line_text position m ≡ line_read position m
    line_printed = read_so (line_text position m) (line_read position m) (λ f n e. ap (head_line position (length m)) (claimed_head_lem m f n e)) accepted

    pub rows_printed : rows_text position m ≡ rows_read position m
    rows_printed = read_so (rows_text position m) (rows_read position m) rows_as accepted
