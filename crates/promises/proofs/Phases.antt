-- E6: the case that a phase has is the one that is answered for it and no other is, and from it the polarity's code is given back. Assumes nothing.
use Prim.Native.Nat.{ℕ, ◌/◌, ◌^◌, ◌<◌}
use mathlib.Core.Path.{◌≡◌, refl, sym, ap, ap₂, ◌∙◌, subst}
use mathlib.Core.Bool.{Bool, true, false, cond}
use mathlib.Core.Logic.{inl, inr}
use native.Mathlib.Omega.{arith}
use native.Mathlib.Nat.{mod-lt}
use lib.Dec.{T, eqb}
use lib.Ieee.{Float, binary64, ones, of_bits, to_bits}
use lib.Ieee.Bits.{is_true}
use lib.Ieee.Scale.{finite}
use borrow.Author.Tests.{eqb-true, eqb-false, ne_eqb}
use Rattle.macm.specs.declared.Form.{Form}
use Rattle.macm.specs.declared.Form.TheVariants.{New, Old}
use Rattle.macm.specs.declared.Observation.{Observation}
use Rattle.track.specs.declared.Phase.{Phase}
use Rattle.track.specs.declared.Phase.TheVariants.{Withheld, NotFinite, PolarityUnknown, NotCorrected, DueHalf, PolarityUndefined}
use Rattle.track.specs.declared.Polarity.TheVariants.{NotKnown, NotCorrected as Uncorrected, NeedsHalfCycle, Undefined as Unnamed}
use Rattle.track.specs.Condition.{bit, polarity_code, polarity_of}
use Rattle.track.specs.Shown.{exponent, all_ones, HasBits, cycles_with, phase_of}
use Rattle.track.proofs.SameBits.{has_bits, not_finite}
use Rattle.words.specs.Words.{phase_words}
use Rattle.promises.specs.Fields.{ObservationFits}
use Rattle.promises.specs.Phase.{Flagged, double, Finite, Undefined, Cycles, Answered, KindTable}

-- ---- what is finite, both ways
finite_if : (b : ℕ) → b < 2 ^ 64 → all_ones binary64 b ≡ false → HasBits binary64 (of_bits binary64 b) b
finite_if b l e = has_bits binary64 b (eqb-false (exponent binary64 b) (ones binary64) e) l

finite_only_if : (b : ℕ) → T (finite (of_bits binary64 b)) → all_ones binary64 b ≡ false
finite_only_if b t = ne_eqb (exponent binary64 b) (ones binary64) (λ e. subst T (not_finite binary64 b e) t)

-- what `phase_of` answers in the new form, by the flag and by whether the exponent is all ones
abbrev tried : Observation → Bool → Bool → Phase
tried o v n = cond v (cond n NotFinite (cycles_with (polarity_of (polarity_code o.condition)) (double o))) Withheld

-- ---- the case that is answered holds
under : (k : ℕ) (x : Float) (f : Form) (o : Observation) → k < 8 → Cycles k x f o → Answered (cycles_with (polarity_of k) x) f o
unfolding polarity_of
under k x f o l c = go (eqb k 0) (eqb k 5) (eqb k 7) (eqb k 6) refl refl refl refl
  where
    go : (a b d e : Bool) → eqb k 0 ≡ a → eqb k 5 ≡ b → eqb k 7 ≡ d → eqb k 6 ≡ e → Answered (cycles_with (cond a NotKnown (cond b Uncorrected (cond d NeedsHalfCycle (Unnamed k)))) x) f o
    go true b d e p q r s = subst (λ n. Cycles n x f o) (eqb-true k 0 p) c
    go false true d e p q r s = subst (λ n. Cycles n x f o) (eqb-true k 5 q) c
    go false false true e p q r s = subst (λ n. Cycles n x f o) (eqb-true k 7 r) c
    go false false false true p q r s = (inr (eqb-true k 6 s), c)
    go false false false false p q r s =
        let none = eqb-false k 0 p in
        let five = eqb-false k 5 q in
        let six = eqb-false k 6 s in
        let seven = eqb-false k 7 r in
        (inl (omega arith, omega arith), c)

pub phase_answered : (f : Form) (o : Observation) → ObservationFits o → Answered (phase_of f o) f o
phase_answered (Old version) o h = λ never. never
phase_answered (New signal tfom) o h = go (bit 2 o.condition) (all_ones binary64 o.phase) refl refl
  where
    go : (v n : Bool) → bit 2 o.condition ≡ v → all_ones binary64 o.phase ≡ n → Answered (tried o v n) (New signal tfom) o
    go false n e g = λ t. subst T e t
    go true true e g = (subst T (sym e) tt, λ t. subst T (not_finite binary64 o.phase (eqb-true (exponent binary64 o.phase) (ones binary64) g)) t)
    go true false e g =
        let kept = finite_if o.phase h.phase g in
        under (polarity_code o.condition) (double o) (New signal tfom) o (mod-lt (o.condition / 2 ^ 8) (omega arith)) (record { flagged = subst T (sym e) tt; is_finite = kept.1; coded = refl; same_double = refl; same_bits = kept.0 })

-- ---- no other case holds
shown : (k : ℕ) (x : Float) (f : Form) (o : Observation) → Cycles k x f o → cycles_with (polarity_of k) x ≡ phase_of f o
shown k x (Old version) o c = absurd c.flagged
shown k x (New signal tfom) o c =
    let flag = is_true (bit 2 o.condition) c.flagged in
    let exponents = finite_only_if o.phase c.is_finite in
    ap₂ (λ n y. cycles_with (polarity_of n) y) (sym c.coded) c.same_double
    ∙ ap₂ (tried o) (sym flag) (sym exponents)

unnamed : (k : ℕ) → Undefined k → polarity_of k ≡ Unnamed k
unfolding polarity_of
unnamed k (inl u) =
    let least = u.0 in
    let most = u.1 in
    rw (ne_eqb k 0 (λ e. omega arith), ne_eqb k 5 (λ e. omega arith), ne_eqb k 7 (λ e. omega arith))
unnamed k (inr u) = rw (ne_eqb k 0 (λ e. omega arith), ne_eqb k 5 (λ e. omega arith), ne_eqb k 7 (λ e. omega arith))

pub phase_only : (p : Phase) (f : Form) (o : Observation) → ObservationFits o → Answered p f o → p ≡ phase_of f o
unfolding polarity_of
phase_only Withheld (Old version) o h a = refl
phase_only Withheld (New signal tfom) o h a = go (bit 2 o.condition) refl
  where
    go : (v : Bool) → bit 2 o.condition ≡ v → Withheld ≡ tried o v (all_ones binary64 o.phase)
    go true e = absurd (a (subst T (sym e) tt))
    go false e = refl
phase_only NotFinite (Old version) o h a = absurd a.0
phase_only NotFinite (New signal tfom) o h a = go (bit 2 o.condition) (all_ones binary64 o.phase) (is_true (bit 2 o.condition) a.0) refl
  where
    go : (v n : Bool) → v ≡ true → all_ones binary64 o.phase ≡ n → NotFinite ≡ tried o v n
    go v true e g = rw e
    go v false e g = absurd (a.1 (finite_if o.phase h.phase g).1)
phase_only (PolarityUnknown x) f o h a = shown 0 x f o a
phase_only (NotCorrected x) f o h a = shown 5 x f o a
phase_only (DueHalf x) f o h a = shown 7 x f o a
phase_only (PolarityUndefined k x) f o h a = ap (λ p. cycles_with p x) (sym (unnamed k a.0)) ∙ shown k x f o a.1

-- ---- for C: what each kind says
pub kind_by_number : (f : Form) (o : Observation) → ObservationFits o → KindTable f o (phase_words (phase_of f o)).kind
kind_by_number f o h = go (phase_of f o) (phase_answered f o h)
  where
    go : (p : Phase) → Answered p f o → KindTable f o (phase_words p).kind
    go Withheld a = inl (refl, a)
    go NotFinite a = inr (a.0, inl (refl, a.1))
    go (PolarityUnknown x) a = inr (a.flagged, inr (a.is_finite, inl (refl, a.coded)))
    go (NotCorrected x) a = inr (a.flagged, inr (a.is_finite, inr (inl (refl, a.coded))))
    go (DueHalf x) a = inr (a.flagged, inr (a.is_finite, inr (inr (inl (refl, a.coded)))))
    go (PolarityUndefined k x) a = inr (a.1.flagged, inr (a.1.is_finite, inr (inr (inr (refl, subst Undefined (sym a.1.coded) a.0)))))

-- ---- from a case CONDITION's code is given back, and PHASE's bits; without cycles there is neither
pub code_back : (p : Phase) (f : Form) (o : Observation) → Answered p f o → Flagged f o → Finite o → ((phase_words p).code ≡ polarity_code o.condition) × (to_bits binary64 (phase_words p).cycles ≡ o.phase)
code_back Withheld f o a h t = absurd (a h)
code_back NotFinite f o a h t = absurd (a.1 t)
code_back (PolarityUnknown x) f o a h t = (sym a.coded, a.same_bits)
code_back (NotCorrected x) f o a h t = (sym a.coded, a.same_bits)
code_back (DueHalf x) f o a h t = (sym a.coded, a.same_bits)
code_back (PolarityUndefined k x) f o a h t = (sym a.1.coded, a.1.same_bits)

pub no_code : (p : Phase) (f : Form) (o : Observation) → Answered p f o → (Flagged f o → Finite o → ⊥) → ((phase_words p).code ≡ 0) × (to_bits binary64 (phase_words p).cycles ≡ 0)
unfolding of_bits to_bits
no_code Withheld f o a h = (refl, refl)
no_code NotFinite f o a h = (refl, refl)
no_code (PolarityUnknown x) f o a h = absurd (h a.flagged a.is_finite)
no_code (NotCorrected x) f o a h = absurd (h a.flagged a.is_finite)
no_code (DueHalf x) f o a h = absurd (h a.flagged a.is_finite)
no_code (PolarityUndefined k x) f o a h = absurd (h a.1.flagged a.1.is_finite)
