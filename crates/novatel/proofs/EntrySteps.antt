-- What each answer of reading, correcting and writing comes to, in the definitions' words. Assumes nothing.
use Rattle.std.specs.Prelude.{Result, Ok, Err}
use Prim.Native.Nat.{ℕ}
use mathlib.Core.Path.{◌≡◌, sym, ap, ap₂, ◌∙◌}
use mathlib.Core.Bool.{Bool, true, false, ◌&&◌}
use mathlib.Core.List.{List}
use native.Mathlib.Omega.{arith}
use lib.Dec.{eqb}
use lib.IntN.{ℤ}
use lib.ListN.{length}
use borrow.Author.Tests.{eq-eqb, ne_eqb}
use Rattle.octets.specs.Signed.{signed_of, half}
use Rattle.bits.specs.Fields.{cut, field_of}
use Rattle.bits.proofs.Fields.{field_inside}
use Rattle.refusal.specs.declared.Refusal.TheVariants.{OtherLength, OtherSignal}
use Rattle.novatel.specs.Record.{record_of}
use Rattle.novatel.specs.Entries.{says_gps, correction_in, correction_of}
use Rattle.novatel.specs.Rolls.{rolls_of, corrected_of}
use Rattle.novatel.specs.declared.Corrected.{Corrected}
use Rattle.refusal.specs.declared.Refusal.{Refusal}

-- the rolls and what is left, of a range and an ADR
abbrev pub rolled : ℕ → ℤ → Corrected
rolled r a = record { rolls = rolls_of r a; adr = corrected_of r a }

module _ (s : List ℕ) where
  pub correct_size : (length s ≡ 24 → ⊥) → Err OtherLength ≡ correction_of s
  unfolding correction_of
  correct_size n = rw (ne_eqb (length s) 24 n)

  module _ (e : length s ≡ 24) where
    system_is : cut 16 3 (record_of s).status ≡ field_of 16 3 s
    unfolding record_of
    system_is = field_inside 0 32 16 3 s (omega arith)

    signal_is : cut 21 5 (record_of s).status ≡ field_of 21 5 s
    unfolding record_of
    signal_is = field_inside 0 32 21 5 s (omega arith)

    other : says_gps (record_of s).status ≡ false → Err OtherSignal ≡ correction_of s
    unfolding correction_of correction_in
    other n = rw (eq-eqb (length s) 24 e, n)

    pub correct_system : (x : ℕ) → x ≡ field_of 16 3 s → (x ≡ 0 → ⊥) → Err OtherSignal ≡ correction_of s
    unfolding says_gps
    correct_system x q n = other (ap (λ y. eqb y 0 && eqb (cut 21 5 (record_of s).status) 0) (system_is ∙ sym q) ∙ rw (ne_eqb x 0 n))

    module _ (x y : ℕ) (q : x ≡ field_of 16 3 s) (z : x ≡ 0) (p : y ≡ field_of 21 5 s) where
      first : (t : Bool) → eqb y 0 ≡ t → says_gps (record_of s).status ≡ t
      unfolding says_gps
      first t h = ap₂ (λ a b. eqb a 0 && eqb b 0) (system_is ∙ sym q) (signal_is ∙ sym p) ∙ rw (eq-eqb x 0 z, h)

      pub correct_signal : (y ≡ 0 → ⊥) → Err OtherSignal ≡ correction_of s
      correct_signal n = other (first false (ne_eqb y 0 n))

      pub correct_first : y ≡ 0 → (r : ℕ) (a : ℤ) (c : Corrected) → r ≡ field_of 60 36 s → a ≡ signed_of (half 32) (field_of 96 32 s) → c ≡ rolled r a → ◌≡◌ {A = Result Corrected Refusal} (Ok c) (correction_of s)
      unfolding correction_of correction_in record_of
      correct_first n r a c k j h = ap Ok (h ∙ ap₂ rolled k j) ∙ rw (eq-eqb (length s) 24 e, first true (eq-eqb y 0 n))
