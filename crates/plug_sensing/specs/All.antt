-- One name that opens what the call asks and leaves, and one that opens the rule below it too, for lists that are computed.
use Rattle.std.specs.Prelude.{Bool, true}
use Rattle.common.specs.Refusals.{done_unless}
use Rattle.plug_sensing.specs.Sensing.{sensed}
use Rattle.plug_sensing.specs.Calls.{rows, answer}

unfoldable pub call_rules : Bool
unfolding done_unless rows answer
call_rules = true

unfoldable pub plug_rules : Bool
unfolding call_rules sensed
plug_rules = true
