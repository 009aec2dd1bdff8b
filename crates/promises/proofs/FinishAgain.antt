-- finish_again: once the end is answered, finishing answers it again, the same each time, and changes nothing more. Assumes nothing.
use Rattle.std.specs.Prelude.{Ok, Err}
use Prim.Native.Nat.{ℕ, ◌+◌, ◌-◌, ◌≤◌}
use mathlib.Core.Path.{◌≡◌, ap}
use mathlib.Core.Bool.{true}
use mathlib.Core.List.{List, []}
use native.Mathlib.Nat.{add-zero}
use native.Mathlib.Omega.{arith}
use lib.ListN.{length, take, replicate, length-replicate}
use lib.Seq.{length-take-le}
use borrow.Author.Tests.{le-ltb}
use Rattle.division.specs.Work.{tested_in}
use Rattle.refusal.specs.declared.Refusal.{Refusal}
use Rattle.stream.specs.declared.State.{State}
use Rattle.stream.specs.declared.Answer.TheVariants.{End}
use Rattle.stream.specs.Scan.{Scan, got, stop, scan}
use Rattle.stream.specs.Feed.{fed, finish}
use Rattle.stream.specs.Reader.{room, limit, most_summed, checked, Call, refusal, laid, finished_call, finish_call}
use Rattle.stream.specs.Steps.{Allowed}
use Rattle.stream.proofs.ScanLaws.{ScanFact, scan_fact, StopsEmpty, scan_empty_at}
use Rattle.stream.proofs.Cases.{finish_cases}

-- the state that the end leaves, in which nothing is held and the gap count is the answered gap
abbrev at_end : State → ℕ → ℕ → State
at_end s g u = record { held = 0; gap = g; total = s.total; ended = 1; summed = u }

abbrev end_call : State → List ℕ → List ℕ → ℕ → ℕ → Call
end_call s w o g u = record { answer = Ok (End g); state = at_end s g u; window = laid [] w; output = o }

record Ended (c : Call) (s : State) (w o : List ℕ) (g : ℕ) : Type 0 where
  summed : ℕ
  is : c ≡ end_call s w o g summed
  sums : g ≤ s.total
  below : s.total ≤ limit
  window : room ≤ length w

ended : (s : State) (w o : List ℕ) (g : ℕ) → (finish_call s w o).answer ≡ Ok (End g) → Ended (finish_call s w o) s w o g
unfolding finish fed
ended s w o g =
    finish_cases s w o (λ c. c.answer ≡ Ok (End g) → Ended c s w o g) (λ b. apart _) (λ i j b. apart _)
    (λ a. stopped (scan true (take s.held w) s.gap) (scan_fact true (take s.held w) s.gap) (scan_empty_at (take s.held w) s.gap) a)
  where
    apart : (r : Refusal) → Err r ≡ Ok (End g) → Ended (refusal r s w o) s w o g
    apart r e = absurd (let z : ◌≡◌ {A = ℕ} 0 1 = cc in omega arith)

    stopped : (x : Scan) → ScanFact (take s.held w) s.gap x → StopsEmpty x → Allowed s (length w) (length o) 0
        → (finished_call s w o (fed [] x)).answer ≡ Ok (End g) → Ended (finished_call s w o (fed [] x)) s w o g
    stopped (got g' n r) f m a e = absurd (let z : ◌≡◌ {A = ℕ} 0 1 = cc in omega arith)
    stopped (stop g' r) f m a e =
        let z : g' ≡ g = cc in
        let k : g' ≤ s.gap + s.held = omega (arith, f.0.counted, f.0.within, length-take-le s.held w (omega (arith, a.held, a.window))) in
        record { summed = s.summed + tested_in (g - s.gap) (take s.held w); is = rw (m, z); sums = omega (arith, a.sums); below = omega (arith, a.fits); window = a.window }

laid_none : (w : List ℕ) → laid [] (laid [] w) ≡ laid [] w
unfolding laid
laid_none w =
    let z : length (replicate {A = ℕ} (length w - 0) 0) - 0 ≡ length w - 0 = omega (arith, length-replicate {A = ℕ} (length w - 0) 0) in
    ap (λ n. replicate n 0) z

length_none : (w : List ℕ) → length (laid [] w) ≡ length w
unfolding laid
length_none w = omega (arith, length-replicate {A = ℕ} (length w - 0) 0)

-- a call on such a state and window
at_end_lem : (s : State) (z o : List ℕ) (g u : ℕ) → g ≤ s.total → s.total ≤ limit → u ≤ most_summed → room ≤ length z → room ≤ length o → laid [] z ≡ z
    → finish_call (at_end s g u) z o ≡ record { answer = Ok (End g); state = at_end s g u; window = z; output = o }
unfolding finish_call finish fed scan checked tested_in
at_end_lem s z o g u sums below few window output q =
    let zero : g + 0 ≤ s.total = omega arith in
    let none : g - g ≡ 0 = omega arith in
    rw (le-ltb (length z) room window, le-ltb (length o) room output, le-ltb limit s.total below, le-ltb most_summed u few, le-ltb s.total (g + 0) zero, none, add-zero u, q)

-- where the state's count of bytes summed has not passed 2^60, as it has in no run
pub finish_again : (s : State) (w o o' : List ℕ) (g : ℕ) → (finish_call s w o).answer ≡ Ok (End g) → room ≤ length o' → (finish_call s w o).state.summed ≤ most_summed
    → finish_call (finish_call s w o).state (finish_call s w o).window o' ≡ record { answer = Ok (End g); state = (finish_call s w o).state; window = (finish_call s w o).window; output = o' }
finish_again s w o o' g e large few =
    let a = ended s w o g e in
    rw a.is (at_end_lem s (laid [] w) o' g a.summed a.sums a.below (rw a.is at few) (omega (arith, a.window, length_none w)) large (laid_none w))
