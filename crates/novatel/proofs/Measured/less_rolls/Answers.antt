-- `novatel::Measured::less_rolls` meets its contract. Assumes nothing.
use mathlib.Core.Path.{ap, ap₂, ◌∙◌}
use lib.IntN.{ℤ, pos, ◌-ℤ◌, ◌*ℤ◌}
use mir.Syntax.{w64}
use mir.Val.{to_z, of_z}
use mir.ValLaws.{to_z-of_z}
use Rattle.novatel.specs.declared.Corrected.{Corrected}
use Rattle.novatel.specs.Rolls.{corrected_of}
use Rattle.novatel.proofs.RollSteps.{adr_word, product_fits, corrected_fits}
use Rattle.novatel.proofs.Measured.less_rolls.Goals as goal

pub returns : goal.returns
unfolding corrected_of
returns c =
    let n = c.rolls-rolls.result in
    let a = c.args.self.adr in
    let z = to_z-of_z w64 n (record { sfits = c.rolls-rolls.type_inv }) in
    let e = ap (λ (y : ℤ). to_z w64 (of_z w64 (pos 2147483648 *ℤ y))) z ∙ to_z-of_z w64 (pos 2147483648 *ℤ n) (product_fits n c.rolls-rolls.ensures.1) in
    let d = ap (λ (y : ℤ). to_z w64 (of_z w64 y)) (ap₂ (λ (x y : ℤ). x -ℤ y) (to_z-of_z w64 a (adr_word a c.args.self.adr_fits)) e) ∙ to_z-of_z w64 (a -ℤ pos 2147483648 *ℤ n) (corrected_fits a n c.args.self.adr_fits c.rolls-rolls.ensures.1) in
    let q = c.rolls-rolls.ensures.0 in
    ap₂ (λ (x y : ℤ). let both : Corrected = record { rolls = x; adr = y } in both) (z ∙ q) (d ∙ ap (λ (y : ℤ). a -ℤ pos 2147483648 *ℤ y) q)
