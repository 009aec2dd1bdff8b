-- `text::Text::put_digits` meets its contract: without the digits that have no room, what is put stays. Assumes nothing.
use Prim.Native.Nat.{◌+◌, ◌-◌, ◌/◌}
use mathlib.Core.Path.{◌≡◌, sym, ap, ◌∙◌}
use native.Mathlib.Omega.{arith}
use lib.ListN.{drop, length-drop}
use lib.Seq.{length-take-le}
use Rattle.text.specs.Digits.{digits}
use Rattle.text.specs.Put.{appended}
use Rattle.text.proofs.PutLaws.{appended_whole}
use Rattle.text.proofs.Spelling.{length_digits, digit_cut}
use Rattle.text.proofs.Text.put_digits.Goals as goal

pub loop-preserved : goal.loop-preserved
loop-preserved c =
    let a = c.args in
    let fitting = a.width - (c.loop.counter - c.room-room.result) in
    let z : a.width - (c.loop.counter + 1 - c.room-room.result) ≡ fitting - 1 = omega arith in
    (omega arith, ap (λ k. appended (digits a.base k (c.loop.rest / a.base)) a.self.now) z ∙ digit_cut a.self.now a.base fitting c.loop.rest (omega arith) (omega arith) ∙ c.loop.invariant.1)

pub returns : goal.returns
returns c =
    let a = c.args in
    let text = a.self.now in
    let k = c.min.result in
    let f : text.at + k - text.at ≡ k = omega arith in
    let z : a.width - (c.loop.counter - c.room-room.result) ≡ k = omega arith in
    let n = length-take-le (text.at + k - text.at) (drop text.at text.buffer.now) (omega (arith, length-drop text.at text.buffer.now)) in
    let w = c.spell.ensures ∙ ap (λ j. digits a.base j c.loop.rest) (n ∙ f) in
    rw f (appended_whole text _ (digits a.base k c.loop.rest) k (length_digits a.base k c.loop.rest) (omega arith) w) ∙ ap (λ j. appended (digits a.base j c.loop.rest) text) (sym z) ∙ c.loop.invariant.1
