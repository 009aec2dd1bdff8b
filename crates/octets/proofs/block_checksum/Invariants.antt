-- `octets::block_checksum` meets its contract: the loop carries the checksum of the bytes passed, and their count. Assumes nothing.
use mathlib.Core.Path.{◌≡◌}
use lib.ListN.{take}
use Rattle.octets.specs.Checksum.{checksum_of}
use Rattle.octets.proofs.block_checksum.Given as goal

abbrev pub invariant-loop-i : goal.invariant-loop-i
invariant-loop-i l = (l.sum ≡ checksum_of (take l.i l.block)) × (l.passed ≡ l.i)
