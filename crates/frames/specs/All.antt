-- One name that opens the rules that a computed tick goes through, of this crate and of those below.
use Rattle.std.specs.Prelude.{Bool, true}
use Rattle.frames.specs.Records.{is_frame, newest_record}
use Rattle.frames.specs.Heard.{newest_battery, newest_time, newest_status, signals_of}
use Rattle.frames.specs.Times.{charging_ticks, remaining_time}
use Rattle.frames.specs.Sent.{offer_bytes, flags_byte, report_bytes}

unfoldable pub frames_rules : Bool
unfolding is_frame newest_record newest_battery newest_time newest_status signals_of charging_ticks remaining_time offer_bytes flags_byte report_bytes
frames_rules = true
