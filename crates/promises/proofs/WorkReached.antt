-- The count of bytes summed in examples, and a stream that comes near the bound. Assumes nothing.
use Prim.Native.Nat.{ℕ, zero, suc, ◌+◌, ◌*◌, ◌≤◌}
use mathlib.Core.Path.{◌≡◌, refl, ap, ◌∙◌}
use mathlib.Core.Bool.{true, false}
use mathlib.Core.List.{◌∷◌, ◌++◌}
use native.Mathlib.Nat.{zero-add, suc-add}
use native.Mathlib.Omega.{arith}
use lib.ListN.{length, take}
use lib.Seq.{take-append-le}
use lib.Dec.{leb}
use borrow.Author.Tests.{le-leb, lt-leb, lt-ltb}
use Rattle.octets.specs.Begins.{fit}
use Rattle.octets.specs.Checksum.{checksum_from}
use Rattle.macm.specs.Check.{agrees}
use Rattle.front.specs.declared.Claim.TheVariants.{Long}
use Rattle.front.specs.Claim.{counted, claim_by, claim}
use Rattle.front.specs.Look.{judged, look_by, look, tested_by, tested}
use Rattle.division.specs.Division.{length_of, stands, divided, divide_from, divide}
use Rattle.division.specs.Work.{tested_in, work_in, work_of}
use Rattle.samples.specs.Table.{A, B}
use Rattle.promises.specs.Work.{crowded}
use Rattle.promises.proofs.WorkSteps.{work_nil, work_gap}

-- ---- the samples: S12, the first three letters of a sync string and then A; A and then B
pub work_of_S12 : work_of (0x4D ∷ 0x41 ∷ 0x43 ∷ A) ≡ 11
unfolding work_of work_in tested_in divide divide_from divided stands length_of tested tested_by look look_by judged claim claim_by counted fit agrees checksum_from
work_of_S12 = refl

pub work_of_A_then_B : work_of (A ++ B) ≡ 21
unfolding work_of work_in tested_in divide divide_from divided stands length_of tested tested_by look look_by judged claim claim_by counted fit agrees checksum_from
work_of_A_then_B = refl

-- ---- the crowded stream
length_crowded : (k : ℕ) → length (crowded k) ≡ 6 * k
unfolding crowded
length_crowded zero = refl
length_crowded (suc k) = omega (arith, length_crowded k)

split : (j k : ℕ) → crowded (j + k) ≡ crowded j ++ crowded k
unfolding crowded
split zero k = ap crowded (zero-add k)
split (suc j) k = ap crowded (suc-add j k) ∙ ap (λ r. 0x4D ∷ 0x41 ∷ 0x43 ∷ 0x4D ∷ 0 ∷ 0xFF ∷ r) (split j k)

claims : (k : ℕ) → claim (crowded (suc k)) ≡ Long 6135
unfolding crowded claim claim_by counted fit
claims k = rw (lt-ltb 5 (length (crowded (suc k))) (omega arith))

-- no checksum agrees
agrees_not : agrees (take 6135 (crowded 1023)) ≡ false
unfolding agrees checksum_from crowded
agrees_not = refl

refuses : (k : ℕ) → agrees (take 6135 (crowded (1023 + k))) ≡ false
refuses k = ap (λ s. agrees (take 6135 s)) (split 1023 k) ∙ ap agrees (take-append-le 6135 (crowded 1023) (crowded k) (omega (arith, length_crowded 1023))) ∙ agrees_not

-- the five bytes behind the first begin nothing
block : (k : ℕ) → stands (crowded (suc k)) ≡ 0 → work_of (crowded (suc k)) ≡ tested (crowded (suc k)) + work_of (crowded k)
unfolding crowded stands length_of tested tested_by look look_by claim claim_by fit
block k e =
    let r = crowded k in
    let e1 : work_of (0x41 ∷ 0x43 ∷ 0x4D ∷ 0 ∷ 0xFF ∷ r) ≡ 0 + work_of (0x43 ∷ 0x4D ∷ 0 ∷ 0xFF ∷ r) = work_gap 0x41 _ refl in
    let e2 : work_of (0x43 ∷ 0x4D ∷ 0 ∷ 0xFF ∷ r) ≡ 0 + work_of (0x4D ∷ 0 ∷ 0xFF ∷ r) = work_gap 0x43 _ refl in
    let e3 : work_of (0x4D ∷ 0 ∷ 0xFF ∷ r) ≡ 0 + work_of (0 ∷ 0xFF ∷ r) = work_gap 0x4D _ refl in
    let e4 : work_of (0 ∷ 0xFF ∷ r) ≡ 0 + work_of (0xFF ∷ r) = work_gap 0 _ refl in
    let e5 : work_of (0xFF ∷ r) ≡ 0 + work_of r = work_gap 0xFF _ refl in
    omega (arith, work_gap 0x4D (0x41 ∷ 0x43 ∷ 0x4D ∷ 0 ∷ 0xFF ∷ r) e)

module _ (k : ℕ) (short : leb 6135 (length (crowded (suc k))) ≡ false) where
  short_stands : stands (crowded (suc k)) ≡ 0
  unfolding stands length_of look look_by
  short_stands = rw (claims k, short)

  short_tested : tested (crowded (suc k)) ≡ 0
  unfolding tested tested_by
  short_tested = rw (claims k, short)

module _ (k : ℕ) (long : leb 6135 (length (crowded (suc k))) ≡ true) where
  long_stands : agrees (take 6135 (crowded (suc k))) ≡ false → stands (crowded (suc k)) ≡ 0
  unfolding stands length_of look look_by judged
  long_stands e = rw (claims k, long, e)

  long_tested : tested (crowded (suc k)) ≡ 6130
  unfolding tested tested_by
  long_tested = rw (claims k, long)

-- too short for a whole message
none_yet : (k : ℕ) → k ≤ 1022 → work_of (crowded k) ≡ 0
unfolding crowded
none_yet zero l = work_nil
none_yet (suc k) l =
    let short = lt-leb 6135 (length (crowded (suc k))) (omega (arith, length_crowded k)) in
    omega (arith, block k (short_stands k short), short_tested k short, none_yet k (omega arith))

-- each block from then on is tested in full: 6,130 bytes for every 6
pub crowded_work : (k : ℕ) → work_of (crowded (1022 + k)) ≡ 6130 * k
crowded_work zero = none_yet 1022 (omega arith)
crowded_work (suc k) =
    let z : 1022 + suc k ≡ suc (1022 + k) = omega arith in
    let y : 1023 + k ≡ suc (1022 + k) = omega arith in
    let long = le-leb 6135 (length (crowded (suc (1022 + k)))) (omega (arith, length_crowded (suc (1022 + k)))) in
    rw z (omega (arith, block (1022 + k) (long_stands (1022 + k) long (rw y at (refuses k))), long_tested (1022 + k) long, crowded_work k))
