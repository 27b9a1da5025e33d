-- Document 01, 'Frames': what the H'100, H'101 and H'102 that count say. Definitions only.
use Rattle.std.specs.Prelude.{not, ◌&&◌, List, ℕ, ◌%◌, eqb, Option, option_map}
use Rattle.little_endian.specs.Flags.{bit_at}
use Rattle.frames.specs.Records.{data_byte, data_number, newest_record}
use Rattle.frames.specs.Times.{time_of}
use Rattle.frames.specs.declared.times.ChargingTime.{ChargingTime}
use Rattle.frames.specs.declared.newest.HeardFrames.{HeardFrames}
use Rattle.frames.specs.declared.heard.VehicleStatus.{VehicleStatus}
use Rattle.frames.specs.declared.heard.VehicleSignals.{VehicleSignals}

-- "H'100: bytes 4–5 maximum battery voltage."
abbrev pub battery_in : List ℕ → ℕ
battery_in r = data_number r 4

-- "H'101: byte 1 charging time in tens of seconds; if it is H'FF, byte 2 gives minutes": both bytes as they came
abbrev pub time_in : List ℕ → ChargingTime
time_in r = time_of (data_byte r 1) (data_byte r 2)

-- "H'102: bytes 1–2 target voltage; 3 requested amperes; 4 bits 0–4 faults; 5 status"
abbrev pub status_in : List ℕ → VehicleStatus
status_in r = record { target = data_number r 1; request = data_byte r 3; faults = data_byte r 4; flags = data_byte r 5 }

-- "Of several with one identifier in a tick, the last counts": what it says, None where none counts.
unfoldable pub newest_battery : ℕ → List ℕ → Option ℕ
newest_battery count s = option_map battery_in (newest_record 0x100 count s)

unfoldable pub newest_time : ℕ → List ℕ → Option ChargingTime
newest_time count s = option_map time_in (newest_record 0x101 count s)

unfoldable pub newest_status : ℕ → List ℕ → Option VehicleStatus
newest_status count s = option_map status_in (newest_record 0x102 count s)

abbrev pub newest_frames : ℕ → List ℕ → HeardFrames
newest_frames count s = record { battery = newest_battery count s; time = newest_time count s; status = newest_status count s }

-- "4 bits 0–4 faults; 5 status: bit 0 enabled, 1 not in park, 2 system fault, 3 contactor open, 4 stop request"
unfoldable pub signals_of : VehicleStatus → VehicleSignals
signals_of s =
    record {
      clear = eqb (s.faults % 32) 0 && not (bit_at 2 s.flags);
      enabled = bit_at 0 s.flags;
      parked = not (bit_at 1 s.flags);
      closed = not (bit_at 3 s.flags);
      stop = bit_at 4 s.flags;
    }
