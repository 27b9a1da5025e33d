-- `readings::floats::is_within` meets its contract. The comparisons are the rule's, by computation. Assumes nothing.
use lib.Ieee.{of_bits, of_int}
use Rattle.readings.proofs.floats.is_within.Goals as goal

pub returns : goal.returns
unfolding of_bits of_int
returns c = rw c.from.ensures
