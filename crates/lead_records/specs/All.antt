-- One name that opens the rules that a computed tick goes through, of this crate and of those below.
use Rattle.std.specs.Prelude.{Bool, true}
use Rattle.lead.specs.All.{lead_rules}
use Rattle.lead_records.specs.States.{decode, encode, good_state}
use Rattle.lead_records.specs.Inputs.{input_of, good_input}
use Rattle.lead_records.specs.Outputs.{switches, test_volts, flags_of, remaining_of, report_of, shown_bytes, output_of}

unfoldable pub lead_records_rules : Bool
unfolding lead_rules decode encode good_state input_of good_input switches test_volts flags_of remaining_of report_of shown_bytes output_of
lead_records_rules = true
