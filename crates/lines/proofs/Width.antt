-- What stands at the front of a message's rows has room in 80 bytes. Assumes nothing.
use Prim.Native.Nat.{ℕ, ◌≤◌}
use mathlib.Core.Path.{◌≡◌, ap, ◌∙◌}
use mathlib.Core.List.{[], ◌∷◌, ◌++◌}
use native.Mathlib.Omega.{arith}
use lib.ListN.{length, take, length-append}
use Rattle.text.specs.Word.{word}
use Rattle.text.specs.Columns.{space, number_text}
use Rattle.text.specs.Digits.{needed, decimal}
use Rattle.text.specs.declared.Text.{Text}
use Rattle.text.specs.Put.{appended}
use Rattle.text.proofs.PutLaws.{appended_front}
use Rattle.text.proofs.Spelling.{length_digits, needed_most}
use Rattle.macm.specs.declared.Form.{Form}
use Rattle.macm.specs.declared.Form.TheVariants.{New, Old}
use Rattle.macm.specs.declared.Header.{Header}
use Rattle.lines.specs.Rows.{signal_text, head_text}

number_width : (n b : ℕ) → length (number_text n b) ≤ 21
number_width n b = omega (arith, length-append (decimal n) (b ∷ []), length_digits 10 (needed 20 n) n, needed_most 20 n)

signal_width : (f : Form) → length (signal_text f) ≤ 24
signal_width (New signal tfom) = omega (arith, length-append (word "v2 ") (number_text signal space), number_width signal space)
signal_width (Old version) = omega arith

pub head_width : (position : ℕ) (h : Header) → length (head_text position h) ≤ 80
head_width position h =
    let p = number_text position space in
    let t = number_text h.time space in
    omega (arith, length-append p (t ++ signal_text h.form), length-append t (signal_text h.form), number_width position space, number_width h.time space, signal_width h.form)

-- put at the front of 80 bytes, it is what they begin with
pub head_front : (position : ℕ) (h : Header) (empty text : Text) → text ≡ appended (head_text position h) empty → empty.at ≡ 0 → length empty.buffer.now ≡ 80 → take text.at text.buffer.now ≡ head_text position h
head_front position h empty text e z l = ap (λ t. take t.at t.buffer.now) e ∙ appended_front (head_text position h) empty z (omega (arith, head_width position h))
