-- `readings::judge` meets its contract. By cases of the two readings. Assumes nothing.
use mathlib.Core.Path.{ap, ◌∙◌}
use Rattle.readings.specs.Value.{within}
use Rattle.readings.specs.Readings.{allowed_resistance}
use Rattle.readings.proofs.judge.Goals as goal

pub judged-requires : goal.judged-requires
unfolding allowed_resistance
judged-requires c = ap (within 1) c.float_of.ensures ∙ c.requires
