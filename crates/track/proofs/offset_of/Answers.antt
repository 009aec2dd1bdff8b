-- `track::offset_of` meets its contract. Assumes nothing.
use Rattle.std.proofs.Common.{◌≢◌}
use native.Mathlib.Omega.{arith}
use borrow.Author.Tests.{ne_eqb}
use lib.Ieee.{binary32}
use Rattle.track.specs.Shown.{exponent}
use Rattle.track.proofs.SameBits.{no_nan, has_bits}
use Rattle.track.proofs.offset_of.Goals as goal

pub float_from_bits-metres : goal.float_from_bits-metres
float_from_bits-metres c = let not-all-ones : exponent binary32 c.args.header.offset ≢ 0xFF = omega arith in no_nan binary32 _ not-all-ones

pub returns : goal.returns
returns c =
    let bits = c.args.header.offset in
    let not-all-ones : exponent binary32 bits ≢ 0xFF = omega arith in
    (rw (ne_eqb (exponent binary32 bits) 0xFF not-all-ones), has_bits binary32 bits not-all-ones (omega arith))
