-- Range from PR, by the speed of light that 000 gives. Definitions only.
use Rattle.std.specs.Prelude.{ℕ, ◌+◌, ◌*◌, ◌/◌}

-- In micrometres: PR times 149896229, plus 7,500, divided by 15,000, rounded down. In a count of PR, 1 / (3 * 10 ^ 10) s, light goes
-- 299792458 / (3 * 10 ^ 10) m, which is 149896229 / 15,000 micrometres; 7,500 is the half that rounds to the nearest.
unfoldable pub range_of : ℕ → ℕ
range_of pseudorange = (pseudorange * 149896229 + 7500) / 15000
