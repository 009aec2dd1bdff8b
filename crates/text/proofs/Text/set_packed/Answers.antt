-- `text::Text::set_packed` meets its contract. Assumes nothing.
use Prim.Native.Nat.{◌+◌, ◌-◌}
use mathlib.Core.Path.{◌≡◌, refl, ap, ◌∙◌}
use native.Mathlib.Omega.{arith}
use lib.ListN.{drop, length-drop}
use lib.Seq.{length-take-le}
use Rattle.octets.specs.Numbers.{bytes_of}
use Rattle.text.specs.Digits.{digits}
use Rattle.text.proofs.PutLaws.{appended_whole}
use Rattle.text.proofs.Spelling.{length_digits}
use Rattle.text.proofs.Text.set_packed.Goals as goal

pub returns : goal.returns
returns c =
    let text = c.args.self.now in
    let n = length-take-le (text.at + 8 - text.at) (drop text.at text.buffer.now) (omega (arith, length-drop text.at text.buffer.now)) in
    let k : text.at + 8 - text.at ≡ 8 = omega arith in
    let w = c.put_number.ensures ∙ ap (λ j. bytes_of j c.packed_digits.result) (n ∙ k) ∙ c.packed_digits.ensures in
    (refl, rw k (appended_whole text _ (digits 10 8 c.args.n) 8 (length_digits 10 8 c.args.n) (omega arith) w))
