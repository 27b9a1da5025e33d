-- Names that open what a call asks and leaves, what the chip does, and all of it with the rules below, for lists that are computed.
use Rattle.std.specs.Prelude.{Bool, true}
use Rattle.common.specs.Refusals.{done_unless}
use Rattle.receiver.specs.Registers.{status_of, full_from, waiting}
use Rattle.receiver.specs.Chip.{powered_up, value_read, filled, arrived, written, drained, drained_frame, is_up}
use Rattle.receiver.specs.Calls.{rows, lent_to, receiver_after, lent_after, answer}

unfoldable pub call_rules : Bool
unfolding done_unless rows lent_to receiver_after lent_after answer
call_rules = true

unfoldable pub chip_rules : Bool
unfolding powered_up value_read filled arrived written drained drained_frame is_up
chip_rules = true

unfoldable pub receiver_rules : Bool
unfolding call_rules chip_rules status_of full_from waiting
receiver_rules = true
