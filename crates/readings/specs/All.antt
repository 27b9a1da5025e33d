-- One name that opens the rules that a computed tick goes through, of this crate and of those below.
use Rattle.std.specs.Prelude.{Bool, true}
use Rattle.std.specs.Float.Ieee.{of_bits, of_int, le, lt, eq, mul, sub}
use Rattle.readings.specs.Value.{least}
use Rattle.readings.specs.Readings.{in_range, connector_volts, in_tenths, allowed_resistance}

unfoldable pub readings_rules : Bool
unfolding of_bits of_int le lt eq mul sub least in_range connector_volts in_tenths allowed_resistance
readings_rules = true
