-- `octets::checksum` meets its contract. Assumes nothing.
use mathlib.Core.Path.{◌≡◌, sym, ap, ap₂, ◌∙◌}
use native.Mathlib.Omega.{arith}
use Prim.Native.Nat.{ℕ, ◌+◌, ◌-◌, ◌≤◌}
use lib.Bits.{bit_xor}
use mathlib.Core.List.{List}
use lib.ListN.{length, get_or, take, drop, length-drop}
use lib.Seq.{length-take-le}
use Rattle.octets.specs.Checksum.{checksum_of}
use Rattle.octets.proofs.Walks.{sum_part, sum_left}
use Rattle.octets.proofs.checksum.Goals as goal

-- a block is 256 bytes, and says so
block_part : (s : List ℕ) (at : ℕ) → 256 ≤ length s - at → at ≤ length s → length (take (at + 256 - at) (drop at s)) ≡ 256
block_part s at l k = length-take-le (at + 256 - at) (drop at s) (omega (arith, length-drop at s)) ∙ omega arith

pub overflow_add-count-in-loop-count : goal.overflow_add-count-in-loop-count
overflow_add-count-in-loop-count c =
    let s = c.args.s.now in
    let at = c.loop-count.count in
    record { fits = omega (arith, ap (λ r. r.count) c.block_checksum-block.ensures, block_part s at c.loop-count-test.true c.loop-count.invariant.0) }

pub loop-count-preserved : goal.loop-count-preserved
loop-count-preserved c =
    let s = c.args.s.now in
    let l = c.loop-count in
    let b = c.block_checksum-block in
    let part : List ℕ = take (l.count + 256 - l.count) (drop l.count s) in
    let whole : l.count + 256 - l.count ≡ 256 = omega arith in
    let count : b.result.count ≡ 256 = ap (λ r. r.count) b.ensures ∙ block_part s l.count c.loop-count-test.true l.invariant.0 in (
      omega (arith, count, c.loop-count-test.true),
      ap₂ bit_xor l.invariant.1 (ap (λ r. r.value) b.ensures ∙ ap (λ k. checksum_of (take k (drop l.count s))) whole) ∙ sym (sum_part s l.count 256)
          ∙ ap (λ k. checksum_of (take (l.count + k) s)) (sym count),
    )

pub loop-byte-preserved : goal.loop-byte-preserved
loop-byte-preserved c =
    let s = c.args.s.now in
    let from = c.loop-count.count in
    let l = c.loop-byte in
    let here = l.invariant.1 in
    let byte = get_or (take (length s - from) (drop from s)) l.byte-index 0 in (
      ap (λ v. bit_xor v byte) (l.invariant.0 ∙ ap (λ i. checksum_of (take i s)) here)
          ∙ sym (sum_left s from l.byte-index (length s - from) (omega (arith, c.loop-byte-test.true)) (omega (arith, c.loop-byte-test.true)))
          ∙ ap (λ i. checksum_of (take (i + 1) s)) (sym here),
      omega (arith, here),
    )
