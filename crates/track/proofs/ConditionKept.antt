-- What is said of CONDITION leaves no bit of it out, in either form. Assumes nothing.
use Prim.Native.Nat.{ℕ, zero, suc, ◌+◌, ◌*◌, ◌/◌, ◌%◌, ◌^◌, ◌<◌}
use mathlib.Core.Path.{◌≡◌, refl, sym, ap, ◌∙◌}
use mathlib.Core.Bool.{Bool, true, false, cond}
use native.Mathlib.Omega.{arith}
use native.Mathlib.Nat.{add_comm, add_assoc, zero-add, zero-mul, one-mul, mul_assoc, mul_comm, add-mul, mod-lt, mod-add-div', div-add-mod'}
use lib.Arith.{digits_lt, digits_mod}
use lib.Dec.{eqb}
use lib.Pow.{pow-add, pow_pos}
use borrow.Author.Tests.{eqb-true}
use Rattle.macm.specs.declared.Form.{Form}
use Rattle.macm.specs.declared.Form.TheVariants.{New, Old}
use Rattle.macm.specs.declared.Observation.{Observation}
use Rattle.track.specs.declared.Polarity.{Polarity}
use Rattle.track.specs.declared.Polarity.TheVariants.{NotKnown, NotCorrected, NeedsHalfCycle, Undefined}
use Rattle.track.specs.Condition.{bit, polarity_of, flags_of, condition_of, code_in, worth, condition_in}

-- every code is carried, the undefined ones too
pub code_kept : (code : ℕ) → code_in (polarity_of code) ≡ code
unfolding polarity_of
code_kept code = test _ NotKnown _ (eqb-true code _) (test _ NotCorrected _ (eqb-true code _) (test _ NeedsHalfCycle (Undefined code) (eqb-true code _) refl))
  where
    test : (t : Bool) (p q : Polarity) → (t ≡ true → code ≡ code_in p) → code_in q ≡ code → code_in (cond t p q) ≡ code
    test true p q h k = sym (h refl)
    test false p q h k = k

worth_bit : (k n : ℕ) → worth k (bit k n) ≡ n / 2 ^ k % 2 * 2 ^ k
worth_bit k n = go (n / 2 ^ k % 2) (mod-lt (n / 2 ^ k) (omega arith))
  where
    go : (x : ℕ) → x < 2 → cond (eqb x 1) (2 ^ k) 0 ≡ x * 2 ^ k
    go zero l = sym (zero-mul (2 ^ k))
    go (suc zero) l = sym (one-mul (2 ^ k))
    go (suc (suc x)) l = absurd (omega arith)

-- ---- s is the lowest k bits of n
module _ (k n s : ℕ) (low : s ≡ n % 2 ^ k) where
  -- with the next w it is the lowest k + w
  then : (w : ℕ) → s + n / 2 ^ k % 2 ^ w * 2 ^ k ≡ n % 2 ^ (k + w)
  then w =
      let c = 2 ^ k in
      let m = 2 ^ w in
      let q = n / c in
      let r = n % c in
      let all : q / m * (m * c) + (q % m * c + r) ≡ n =
      sym (add_assoc (q / m * (m * c)) (q % m * c) r)
      ∙ ap (λ x. x + r) (ap (λ x. x + q % m * c) (sym (mul_assoc (q / m) m c)) ∙ sym (add-mul (q / m * m) (q % m) c) ∙ ap (λ x. x * c) (div-add-mod' q m))
      ∙ div-add-mod' n c in
      ap (λ x. x + q % m * c) low ∙ add_comm r (q % m * c)
      ∙ sym (digits_mod (q / m) (digits_lt (mod-lt q (pow_pos w)) (mod-lt n (pow_pos k)))) ∙ ap (λ x. x % (m * c)) all
      ∙ ap (λ x. n % x) (mul_comm m c ∙ sym (pow-add 2 k w))

  then_bit : s + worth k (bit k n) ≡ n % 2 ^ (k + 1)
  then_bit = ap (λ x. s + x) (worth_bit k n) ∙ then 1

pub condition_kept : (form : Form) (o : Observation) → condition_in (condition_of form o) ≡ o.condition
unfolding flags_of
condition_kept (Old version) o = refl
condition_kept (New signal tfom) o =
    let n = o.condition in
    let none : 0 ≡ n % 1 = omega arith in
    let one : worth 0 (bit 0 n) ≡ n % 2 ^ 1 = sym (zero-add (worth 0 (bit 0 n))) ∙ then_bit 0 n 0 none in
    let four = then_bit 3 n _ (then_bit 2 n _ (then_bit 1 n _ one)) in
    let eight = then_bit 7 n _ (then_bit 6 n _ (then_bit 5 n _ (then_bit 4 n _ four))) in
    let eleven = then 8 n _ eight 3 in
    rw (code_kept (n / 2 ^ 8 % 2 ^ 3)) (ap (λ x. x + n / 2 ^ 12 * 2 ^ 12) (then_bit 11 n _ eleven) ∙ mod-add-div' n (2 ^ 12))
