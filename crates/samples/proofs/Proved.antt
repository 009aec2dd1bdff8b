-- Every line of the sample table holds, by computing the definitions. Assumes nothing.
use mathlib.Core.Path.{refl}
use Rattle.octets.specs.Begins.{fit}
use Rattle.octets.specs.Checksum.{checksum_from}
use Rattle.macm.specs.Check.{verdict, verdict_by, shape_of, shape_by, shape_as, form_of, agrees}
use Rattle.track.specs.Range.{range_of}
use Rattle.track.specs.Condition.{flags_of, polarity_of}
use Rattle.front.specs.Claim.{counted, claim_by, claim}
use Rattle.front.specs.Look.{judged, look_by, look}
use Rattle.division.specs.Division.{length_of, stands, divided, divide_from, divide}
use Rattle.samples.specs.Table.{All, table}

pub samples : All table
unfolding All verdict verdict_by shape_of shape_by shape_as form_of agrees fit checksum_from range_of flags_of polarity_of counted claim_by claim judged look_by look length_of stands divided divide_from divide
samples = (refl, (refl, (refl, (refl, (refl, (refl, (refl, (refl, (refl, (refl, (refl, (refl, tt))))))))))))
