-- `readings::Measurement::connector_volts` meets its contract. By the sign of the difference. Assumes nothing.
use lib.Ieee.{of_bits, of_int}
use Rattle.readings.specs.Readings.{connector_volts}
use Rattle.readings.proofs.Measurement.connector_volts.Goals as goal

pub returns-then-volts : goal.returns-then-volts
unfolding connector_volts of_bits of_int
returns-then-volts c = rw c.if-volts.true

pub returns-else-volts : goal.returns-else-volts
unfolding connector_volts of_bits of_int
returns-else-volts c = rw c.if-volts.false
