-- `octets::checksum` meets its contract: both loops carry the checksum of the bytes passed, and their count. Assumes nothing.
use Prim.Native.Nat.{◌+◌, ◌-◌, ◌≤◌}
use mathlib.Core.Path.{◌≡◌}
use lib.ListN.{length, take}
use Rattle.octets.specs.Checksum.{checksum_of}
use Rattle.octets.proofs.checksum.Given as goal

abbrev pub invariant-loop-count : goal.invariant-loop-count
invariant-loop-count l = (l.count ≤ length l.s) × (l.value ≡ checksum_of (take l.count l.s))

abbrev pub decreases-loop-count : goal.decreases-loop-count
decreases-loop-count l = length l.s - l.count

abbrev pub invariant-loop-byte : goal.invariant-loop-byte
invariant-loop-byte l = (l.value ≡ checksum_of (take l.count l.s)) × (l.count ≡ l.initial.count + l.byte-index)
