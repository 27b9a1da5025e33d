-- `readings::is_allowed_resistance` meets its contract. Two promises, one after the other. Assumes nothing.
use Rattle.readings.specs.Readings.{allowed_resistance}
use Rattle.readings.proofs.is_allowed_resistance.Goals as goal

pub returns : goal.returns
unfolding allowed_resistance
returns c = rw (← c.float_of.ensures) c.is_within.ensures
