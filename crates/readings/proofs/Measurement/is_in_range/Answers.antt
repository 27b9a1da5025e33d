-- `readings::Measurement::is_in_range` meets its contract. Both tests are what `is_within` promises. Assumes nothing.
use Rattle.readings.specs.Readings.{in_range}
use Rattle.readings.proofs.Measurement.is_in_range.Goals as goal

pub returns : goal.returns
unfolding in_range
returns c = rw (c.is_within-2.ensures, c.is_within.ensures)
