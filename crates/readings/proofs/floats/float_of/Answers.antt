-- `readings::floats::float_of` meets its contract. A NaN's pattern gives the NaN, any other its float. Assumes nothing.
use mathlib.Core.Path.{sym}
use native.Mathlib.Omega.{arith}
use lib.Ieee.{of_bits}
use Rattle.readings.proofs.Bits.{nan_of_bits, no_nan_bits}
use Rattle.readings.proofs.floats.float_of.Goals as goal

pub float_from_bits-result : goal.float_from_bits-result
float_from_bits-result c = no_nan_bits c.args.bits (omega arith)

pub returns-then-bits-gt2139095040 : goal.returns-then-bits-gt2139095040
unfolding of_bits
returns-then-bits-gt2139095040 c = sym (nan_of_bits c.args.bits (omega arith))
