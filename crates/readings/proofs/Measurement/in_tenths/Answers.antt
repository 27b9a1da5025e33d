-- `readings::Measurement::in_tenths` meets its contract. Both floats are in the range that `least_tenth` asks: `values_within`. Assumes nothing.
use mathlib.Core.Path.{ap, ◌∙◌}
use Rattle.readings.specs.Value.{within}
use Rattle.readings.specs.Readings.{connector_volts, in_tenths}
use Rattle.common.proofs.Bools.{is_true}
use Rattle.readings.proofs.Connector.{values_within}
use Rattle.readings.proofs.Measurement.in_tenths.Goals as goal

pub least_tenth-requires : goal.least_tenth-requires
least_tenth-requires c =
    let m = c.args.self in
    ap (within 1000) c.connector_volts.ensures ∙ is_true (within 1000 (connector_volts m)) (values_within m c.requires.0 c.requires.1).0

pub least_tenth-requires-2 : goal.least_tenth-requires-2
least_tenth-requires-2 c =
    is_true (within 1000 c.args.self.amperes) (values_within c.args.self c.requires.0 c.requires.1).1

pub returns : goal.returns
unfolding in_tenths
returns c = rw (c.least_tenth-2.ensures, c.least_tenth.ensures, c.connector_volts.ensures)
