-- `track::phase_of` meets its contract: each return is the definition at the tests that led there. Assumes nothing.
use mathlib.Core.Bool.{true}
use mathlib.Core.Path.{◌≡◌, sym, ◌∙◌}
use Rattle.std.proofs.Common.{◌≢◌}
use native.Mathlib.Omega.{arith}
use borrow.Author.Tests.{ne_eqb}
use lib.Ieee.{binary64, of_bits}
use Rattle.track.specs.Condition.{bit, polarity_code, polarity_of}
use Rattle.track.specs.Shown.{exponent}
use Rattle.track.proofs.SameBits.{no_nan, has_bits, cycles_show}
use Rattle.track.proofs.phase_of.Goals as goal

pub float_from_bits-cycles : goal.float_from_bits-cycles
float_from_bits-cycles c = let not-all-ones : exponent binary64 c.args.observation.phase ≢ 0x7FF = omega arith in no_nan binary64 _ not-all-ones

pub returns : goal.returns
returns c =
    let at = c in
    let o = at.args.observation in
    let not-all-ones : exponent binary64 o.phase ≢ 0x7FF = omega arith in
    let flagged : bit 2 o.condition ≡ true = sym c.bit.ensures ∙ c.if-not-bit.false in
    let shows = cycles_show (polarity_of (polarity_code o.condition)) (of_bits binary64 o.phase) o.phase (has_bits binary64 o.phase not-all-ones (omega arith)) in
    rw (c.cycles_with.ensures, c.polarity_of.ensures) (rw (at.in_default.is, flagged, ne_eqb (exponent binary64 o.phase) 0x7FF not-all-ones), shows)
