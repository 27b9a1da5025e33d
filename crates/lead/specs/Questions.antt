-- Document 01, 'Stop questions': the nineteen questions and the first no. Definitions only.
use Rattle.std.specs.Prelude.{Bool, true, false, not, cond, ◌&&◌, ◌||◌, List, [], ◌∷◌, ℕ, ◌-◌, min, leb, ltb, eqb, get_or, drop, ⊤, Option, Some, None, is_some, Result, Ok, Err}
use Rattle.common.specs.Tests.{between}
use Rattle.readings.specs.Readings.{ValueRange, upper_end, at_most, insulated}
use Rattle.readings.specs.declared.Tenths.{Tenths}
use Rattle.readings.specs.declared.MeterErrors.{MeterErrors}
use Rattle.readings.specs.declared.Measured.{Measured}
use Rattle.frames.specs.Times.{charging_ticks}
use Rattle.frames.specs.Heard.{signals_of}
use Rattle.frames.specs.declared.heard.VehicleStatus.{VehicleStatus}
use Rattle.lead.specs.Names.{handshake, no_reason, emergency_button, unplugged, ground_fault, permission_open, bad_reading, overvoltage, overcurrent, unlocked, car_silent, car_fault, incompatible_voltage, not_in_park, not_enabled, stop_request, contactor_open, stop_button, low_insulation, phase_timeout, charging_time_over}
use Rattle.lead.specs.Figures.{most_volts, most_amperes, least_volts, silence_end}
use Rattle.lead.specs.Hearing.{hear}
use Rattle.lead.specs.declared.state.Lead.{Lead}
use Rattle.lead.specs.declared.state.HeardLead.{HeardLead}
use Rattle.lead.specs.declared.state.Ratings.{Ratings}
use Rattle.lead.specs.declared.state.Input.{Input}
use Rattle.lead.specs.declared.questions.Meter.{Meter}
use Rattle.lead.specs.declared.questions.View.{View}
use Rattle.lead.specs.declared.questions.Stop.{Stop}
use Rattle.lead.specs.declared.questions.Stop.TheVariants.{Urgent, Ordinary}

-- 2026-08: "For connector volts the range is their tenths with the volts' e alone; the amperes' e judges amperes only."
abbrev pub volts_range : MeterErrors → Tenths → ValueRange
volts_range errors volts = record { tenths = volts; error = errors.volts }

abbrev pub amperes_range : MeterErrors → Tenths → ValueRange
amperes_range errors amperes = record { tenths = amperes; error = errors.amperes }

-- What is judged of a good reading. 2026-08: "Questions 16 and 17, both 10 V limits and the end of phase 7 judge the upper end."
abbrev pub meter_of : MeterErrors → Option Measured → Option Meter
meter_of errors (Some m) =
    Some (record { volts = upper_end (volts_range errors m.volts); amperes = upper_end (amperes_range errors m.amperes) })
meter_of errors None = None

-- A limit on what is judged. A bad reading has nothing that could be above it, and is question 15's: "15 Reading good? (3–7)" has stopped it
-- where 16 and 17 are asked and before the moves out of 4 and 7.
abbrev pub unless_bad : (Meter → Bool) → Option Meter → Bool
unless_bad limit (Some meter) = limit meter
unless_bad limit None = true

-- 2026-06: "an H'102 counted in this tick with enabled clear"
abbrev pub revokes : Option VehicleStatus → Bool
revokes (Some sent) = not (signals_of sent).enabled
revokes None = false

-- "The threshold is the smaller of rated volts and maximum battery voltage. In phase 1 question 21 works it out"
abbrev pub threshold_now : Ratings → HeardLead → ℕ
threshold_now c heard =
    let s : Lead = heard.lead in
    cond (eqb s.stage.phase handshake) (min c.volts s.car.battery.value) s.threshold

-- question 28: "100, 20, 150, 50, 100 in phases 1 to 5", by phase
abbrev pub ticks_allowed : List ℕ
ticks_allowed = 0 ∷ 100 ∷ 20 ∷ 150 ∷ 50 ∷ 100 ∷ []

-- what the questions and the moves look at beside the lead's own numbers
unfoldable pub view_of : Ratings → Input → HeardLead → View
view_of c i heard =
    record {
      contacts = i.contacts;
      meter = meter_of c.errors i.reading;
      signals = signals_of heard.lead.car.status.value;
      revoked = revokes i.frames.status;
      rated = c.amperes;
      threshold = threshold_now c heard;
      present = is_some i.insulation;
      insulated = insulated (threshold_now c heard) i.insulation;
      allowed = get_or ticks_allowed heard.lead.stage.phase 0;
      time = charging_ticks heard.lead.car.time.value;
    }

-- A question: its number, whether its stop is urgent, the first and the last phase in which it is asked, whether the answer is yes, and the
-- reason that a no gives.
pub record Question : Type 0 where
  pub number : ℕ
  pub urgent : Bool
  pub first : ℕ
  pub last : ℕ
  pub answer : Bool
  pub reason : ℕ

-- the reason is the question's number
abbrev pub urgent_row : ℕ → ℕ → ℕ → Bool → Question
urgent_row number first last answer =
    record { number = number; urgent = true; first = first; last = last; answer = answer; reason = number }

abbrev pub ordinary_row : ℕ → ℕ → ℕ → Bool → Question
ordinary_row number first last answer =
    record { number = number; urgent = false; first = first; last = last; answer = answer; reason = number }

-- a row whose no gives this reason
abbrev pub giving : ℕ → Question → Question
giving reason q =
    record { number = q.number; urgent = q.urgent; first = q.first; last = q.last; answer = q.answer; reason = reason }

-- 2026-06: "In phases 2 to 6, with … permission open and an H'102 counted in this tick with enabled clear, the reason is 23 and no longer
-- 14; nothing else changes." It is what question 14's no gives, which is asked behind "questions 11–13".
abbrev pub opened_reason : ℕ → Bool → ℕ
opened_reason p revoked = cond (between 2 6 p && revoked) not_enabled permission_open

-- "once H'100 and H'102 are seen"
abbrev pub once : Bool → Bool → Bool
once seen answer = not seen || answer

-- "Stop questions, phases in brackets". "11–18 are urgent."
unfoldable pub questions : View → HeardLead → List Question
questions v heard =
    let s : Lead = heard.lead in
    -- "11 Emergency button out? (1–8)"
    urgent_row emergency_button 1 8 (not v.contacts.emergency)
    -- "12 Plug contact closed? (1–8)"
    ∷ urgent_row unplugged 1 8 v.contacts.plug
    -- "13 No leak trip? (1–8)"
    ∷ urgent_row ground_fault 1 8 (not v.contacts.leakage)
    -- "14 Permission closed? (2–7)"; where the car's H'102 of the tick says no too its no gives 23 (2026-06)
    ∷ giving (opened_reason s.stage.phase v.revoked) (urgent_row permission_open 2 7 v.contacts.permission)
    -- "15 Reading good? (3–7)"
    ∷ urgent_row bad_reading 3 7 (is_some v.meter)
    -- "16 Connector volts", their upper end (2026-08), "at most the threshold? (5–7)"
    ∷ urgent_row overvoltage 5 7 (unless_bad (λ meter. at_most meter.volts (most_volts v.threshold)) v.meter)
    -- "17 Amperes", their upper end (2026-08), "at most rated" + 2.5 (2026-04)? "(5–7)"
    ∷ urgent_row overcurrent 5 7 (unless_bad (λ meter. at_most meter.amperes (most_amperes v.rated)) v.meter)
    -- "18 Lock contact closed? (3–7)"
    ∷ urgent_row unlocked 3 7 v.contacts.lock
    -- "19 Silence below 10? (2–6)"
    ∷ ordinary_row car_silent 2 6 (ltb s.car.silence silence_end)
    -- "20 Faults and system fault clear? (1–6)"
    ∷ ordinary_row car_fault 1 6 v.signals.clear
    -- "21 Maximum voltage at least 50, target from 50 to the threshold? (1–6, once H'100 and H'102 are seen)"
    ∷ ordinary_row incompatible_voltage 1 6
    (once (s.car.battery.seen && s.car.status.seen)
    (leb least_volts s.car.battery.value
    && leb least_volts s.car.status.value.target
    && leb s.car.status.value.target v.threshold))
    -- "22 In park? (1–6)"
    ∷ ordinary_row not_in_park 1 6 v.signals.parked
    -- "23 Enabled? (2–6)"
    ∷ ordinary_row not_enabled 2 6 v.signals.enabled
    -- "24 No stop request? (1–6)"
    ∷ ordinary_row stop_request 1 6 (not v.signals.stop)
    -- "25 Contactor closed? (6)"
    ∷ ordinary_row contactor_open 6 6 v.signals.closed
    -- "26 Stop button out? (1–6)"
    ∷ ordinary_row stop_button 1 6 (not v.contacts.stop)
    -- "27 Resistance, if given, at least 100 ohms × threshold? (3)"
    ∷ ordinary_row low_insulation 3 3 v.insulated
    -- "28 Age below 100, 20, 150, 50, 100 in phases 1 to 5?"
    ∷ ordinary_row phase_timeout 1 5 (ltb s.stage.age v.allowed)
    -- "29 Age below the charging time? (6)"
    ∷ ordinary_row charging_time_over 6 6 (ltb s.stage.age v.time)
    ∷ []

-- those from number n on; they stand in the order of their numbers
abbrev pub questions_from : ℕ → View → HeardLead → List Question
questions_from n v heard = drop (n - 11) (questions v heard)

-- asked in the phase, and the answer is no
abbrev pub is_no : ℕ → Question → Bool
is_no p q = between q.first q.last p && not q.answer

abbrev pub stop_of : Question → Stop
stop_of q = cond q.urgent (Urgent q.reason) (Ordinary q.reason)

-- "The first "no" is the stop."
abbrev pub first_no : ℕ → List Question → Result ⊤ Stop
first_no p [] = Ok tt
first_no p (q ∷ rows) = cond (is_no p q) (Err (stop_of q)) (first_no p rows)

unfoldable pub ask : View → HeardLead → Result ⊤ Stop
ask v heard = first_no heard.lead.stage.phase (questions v heard)

-- the document's number for each verdict
abbrev pub reason_of : Result ⊤ Stop → ℕ
reason_of (Ok done) = no_reason
reason_of (Err (Urgent reason)) = reason
reason_of (Err (Ordinary reason)) = reason

-- past the last question: one that never gets a no
abbrev pub no_question : Question
no_question = ordinary_row no_reason 0 0 true

-- the verdict of a tick, by the lead before it
abbrev pub verdict : Ratings → Input → Lead → Result ⊤ Stop
verdict c i s = ask (view_of c i (hear i s)) (hear i s)

-- question n is asked in the tick and gets a no
unfoldable pub got_no : Ratings → Input → Lead → ℕ → Bool
got_no c i s n = leb 11 n && is_no s.stage.phase (get_or (questions (view_of c i (hear i s)) (hear i s)) (n - 11) no_question)
