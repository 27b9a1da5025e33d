-- Document 01, 'The post's two calls' and 'Frames': the 24 bytes that a lead shows, "All show the state after the tick". Definitions only.
use Rattle.std.specs.Prelude.{Bool, not, cond, ◌||◌, List, [], ◌∷◌, ◌++◌, ℕ, ◌*◌, eqb, Option, Some, None}
use Rattle.little_endian.specs.Numbers.{low_byte, high_byte}
use Rattle.little_endian.specs.Flags.{byte_of}
use Rattle.readings.specs.Readings.{whole_units}
use Rattle.readings.specs.declared.Measured.{Measured}
use Rattle.frames.specs.Times.{time_of, remaining_time}
use Rattle.frames.specs.Sent.{offer_bytes, report_bytes}
use Rattle.frames.specs.declared.times.ChargingTime.{ChargingTime}
use Rattle.frames.specs.declared.sent.ChargerFlags.{ChargerFlags}
use Rattle.frames.specs.declared.sent.Offer.{Offer}
use Rattle.frames.specs.declared.sent.Report.{Report}
use Rattle.common.specs.Tests.{between}
use Rattle.lead.specs.Names.{insulation_test, charging, ground_fault, bad_reading, unlocked, car_silent, incompatible_voltage, low_insulation, phase_timeout}
use Rattle.lead.specs.Power.{offered}
use Rattle.lead.specs.declared.state.Lead.{Lead}
use Rattle.lead.specs.declared.state.Ratings.{Ratings}
use Rattle.lead_records.specs.declared.outputs.ShownReading.{ShownReading}

-- "Output, 24 a lead"
abbrev pub output_size : ℕ
output_size = 24

-- the two frames at its end, eight bytes each
abbrev pub frame_size : ℕ
frame_size = 8

abbrev pub frames_size : ℕ
frames_size = 2 * frame_size

-- "3 bits d1 (phases 1–8), d2 (5–8), lock (2–9), frames to be sent (1–9)"
unfoldable pub switches : ℕ → ℕ
switches p = byte_of (between 1 8 p ∷ between 5 8 p ∷ between 2 9 p ∷ between 1 9 p ∷ [])

-- "4–5 test volts, the threshold in phase 3, else 0"
unfoldable pub test_volts : Lead → ℕ
test_volts s = cond (eqb s.stage.phase insulation_test) s.threshold 0

-- what H'108 offers, at the tick's level
abbrev pub offer_of : Ratings → ℕ → Lead → Offer
offer_of c level s = record { volts = c.volts; amperes = offered c level s; threshold = s.threshold }

-- "Flags: 0 set in phases 6, 7; 1 for reasons 13, 15–18, 27; 2 lock contact closed; 3 for reason 21; 4 for reasons 19, 28; 5 set unless phase 6."
unfoldable pub flags_of : Bool → ℕ → ℕ → ChargerFlags
flags_of lock p reason =
    record {
      charging = between 6 7 p;
      malfunction = eqb reason ground_fault || between bad_reading unlocked reason || eqb reason low_insulation;
      locked = lock;
      incompatible = eqb reason incompatible_voltage;
      system = eqb reason car_silent || eqb reason phase_timeout;
      stopped = not (eqb p charging);
    }

-- "Remaining time, in phases 2–6, is the charging time, in phase 6 less the age after the tick … In other phases both are 0."
unfoldable pub remaining_of : Lead → ChargingTime
remaining_of s =
    cond (between 2 6 s.stage.phase)
    (remaining_time s.car.time.value (cond (eqb s.stage.phase charging) s.stage.age 0))
    (time_of 0 0)

-- "Without a good reading 1–3 are 0." 2026-04: "H'109 still carries whole numbers, rounded up from tenths."
abbrev pub shown_reading : Option Measured → ShownReading
shown_reading (Some m) = record { volts = whole_units m.volts; amperes = whole_units m.amperes }
shown_reading None = record { volts = 0; amperes = 0 }

-- what H'109 reports
unfoldable pub report_of : Bool → Option Measured → Lead → Report
report_of lock reading s =
    record {
      volts = (shown_reading reading).volts;
      amperes = (shown_reading reading).amperes;
      flags = flags_of lock s.stage.phase s.stage.reason;
      remaining = remaining_of s;
    }

-- "both zero outside 1–9"
abbrev pub while_sending : ℕ → List ℕ → List ℕ
while_sending p frame = cond (between 1 9 p) frame (0 ∷ 0 ∷ 0 ∷ 0 ∷ 0 ∷ 0 ∷ 0 ∷ 0 ∷ [])

-- "0 phase; 1 reason; 2 command; 3 bits …; 4–5 test volts …; 6–7 zero"
unfoldable pub shown_bytes : Lead → List ℕ
shown_bytes s =
    s.stage.phase ∷ s.stage.reason ∷ s.command ∷ switches s.stage.phase ∷ low_byte (test_volts s) ∷ high_byte (test_volts s) ∷ 0 ∷ 0 ∷ []

-- "H'108; H'109". Of the tick itself they show what its level carries, its lock contact and its reading.
unfoldable pub output_of : Ratings → ℕ → Bool → Option Measured → Lead → List ℕ
output_of c level lock reading s =
    shown_bytes s
    ++ while_sending s.stage.phase (offer_bytes (offer_of c level s))
    ++ while_sending s.stage.phase (report_bytes (report_of lock reading s))
