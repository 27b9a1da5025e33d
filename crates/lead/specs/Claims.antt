-- Requests 2026-04 and 2026-08: what they say of questions and moves. Definitions only.
use Rattle.std.specs.Prelude.{Bool, true, false, List, [], ◌∷◌, ◌≡◌, ℕ, ◌-◌, T, leb, Float, get_or, Option, Some, option_map}
use Rattle.common.specs.Tests.{between}
use Rattle.readings.specs.Readings.{judged_of, allowed_resistance, upper_end, exactly}
use Rattle.readings.specs.Claims.{IsLeast, connector_of, StandsFor}
use Rattle.readings.specs.declared.Tenths.{Tenths}
use Rattle.lead.specs.Names.{test_discharge, ramp_down, final_discharge, overvoltage, overcurrent}
use Rattle.lead.specs.Questions.{volts_range, amperes_range, threshold_now, view_of, Question, questions, no_question}
use Rattle.lead.specs.Moves.{moves}
use Rattle.lead.specs.declared.state.Ratings.{Ratings}
use Rattle.lead.specs.declared.state.Input.{Input}
use Rattle.lead.specs.declared.state.HeardLead.{HeardLead}
use Rattle.lead.specs.declared.questions.Meter.{Meter}
use Rattle.lead.specs.declared.questions.View.{View}

-- 2026-04: "The 10 V limits and question 16 compare in tenths", and answer as they do in whole volts: question 16 and the moves out of 4 and 9,
-- answered on n whole volts.
pub record OnWholeVolts (c : Ratings) (i : Input) (heard : HeardLead) (n : ℕ) : Type 0 where
  pub question_16 : (get_or (questions (view_of c i heard) heard) (overvoltage - 11) no_question).answer ≡ leb n (threshold_now c heard)
  pub out_of_4 : get_or (moves (view_of c i heard) heard) 4 false ≡ leb n 10
  pub out_of_9 : get_or (moves (view_of c i heard) heard) 9 false ≡ leb n 10

-- With an exact voltmeter they answer so, in every tick with a good reading, on the least whole number not below the volts at the connector.
abbrev pub VoltsAsWhole : Type 0
VoltsAsWhole =
    (c : Ratings) (i : Input) (heard : HeardLead) (volts amperes : Float) (v a : Tenths) (n : ℕ)
    → c.errors.volts ≡ 0
    → allowed_resistance c.resistance ≡ true
    → judged_of (Some volts) (Some amperes) c.resistance ≡ Some (record { volts = v; amperes = a })
    → i.reading ≡ Some (record { volts = v; amperes = a })
    → IsLeast 1 (connector_of volts amperes c.resistance) n
    → OnWholeVolts c i heard n

-- the bits of volts at the connector, the voltmeter's error, and whether they pass question 16 at a threshold of 400 V and the 10 V limits
pub record WorkedVolts : Type 0 where
  pub bits : ℕ
  pub error : ℕ
  pub fits : Bool
  pub discharged : Bool

abbrev pub worked_volts : List WorkedVolts
worked_volts =
    -- 10 V and the float above it, 400 V and the float above it
    record { bits = 0x4120_0000; error = 0; fits = true; discharged = true }
    ∷ record { bits = 0x4120_0001; error = 0; fits = true; discharged = false }
    ∷ record { bits = 0x43c8_0000; error = 0; fits = true; discharged = false }
    ∷ record { bits = 0x43c8_0001; error = 0; fits = false; discharged = false }
    -- 9.625, 9.75, 399.625 and 399.75 V, which are 97, 98, 3,997 and 3,998 tenths, 3 tenths off at most
    ∷ record { bits = 0x411a_0000; error = 3; fits = true; discharged = true }
    ∷ record { bits = 0x411c_0000; error = 3; fits = true; discharged = false }
    ∷ record { bits = 0x43c7_d000; error = 3; fits = true; discharged = false }
    ∷ record { bits = 0x43c7_e000; error = 3; fits = false; discharged = false }
    ∷ []

-- a tick's view with another meter
abbrev with_meter : Option Meter → View → View
with_meter meter v =
    record {
      contacts = v.contacts;
      meter = meter;
      signals = v.signals;
      revoked = v.revoked;
      rated = v.rated;
      threshold = v.threshold;
      present = v.present;
      insulated = v.insulated;
      allowed = v.allowed;
      time = v.time;
    }

-- 2026-08: with exactly this value in the place of a good reading's volts, and of its amperes
abbrev pub with_volts : Tenths → View → View
with_volts x v = with_meter (option_map (λ (meter : Meter). record { volts = upper_end (exactly x); amperes = meter.amperes }) v.meter) v

abbrev pub with_amperes : Tenths → View → View
with_amperes x v = with_meter (option_map (λ (meter : Meter). record { volts = meter.volts; amperes = upper_end (exactly x) }) v.meter) v

-- question n is asked in the lead's phase, and the answer is yes
abbrev pub Passes : ℕ → View → HeardLead → Type 0
Passes n v heard =
    let q : Question = get_or (questions v heard) (n - 11) no_question in
    T (between q.first q.last heard.lead.stage.phase) × T q.answer

-- what the move out of phase p wants is met
abbrev pub Meets : ℕ → View → HeardLead → Type 0
Meets p v heard = T (get_or (moves v heard) p false)

-- "Wherever such a question is passed, each value in the range would have passed it": of a tick with these volts and amperes, the whole question
-- or move
module _ (c : Ratings) (i : Input) (heard : HeardLead) (volts amperes : Tenths) where
  abbrev view : View
  view = view_of c i heard

  abbrev VoltsMayBe : Tenths → Type 0
  VoltsMayBe = StandsFor (volts_range c.errors volts)

  abbrev AmperesMayBe : Tenths → Type 0
  AmperesMayBe = StandsFor (amperes_range c.errors amperes)

  pub record EachValue : Type 0 where
    pub question_16 : (x : Tenths) → VoltsMayBe x → Passes overvoltage view heard → Passes overvoltage (with_volts x view) heard
    pub question_17 : (x : Tenths) → AmperesMayBe x → Passes overcurrent view heard → Passes overcurrent (with_amperes x view) heard
    pub out_of_4 : (x : Tenths) → VoltsMayBe x → Meets test_discharge view heard → Meets test_discharge (with_volts x view) heard
    pub out_of_7 : (x : Tenths) → AmperesMayBe x → Meets ramp_down view heard → Meets ramp_down (with_amperes x view) heard
    pub out_of_9 : (x : Tenths) → VoltsMayBe x → Meets final_discharge view heard → Meets final_discharge (with_volts x view) heard

-- every tick with a good reading
abbrev pub EachValuePasses : Type 0
EachValuePasses =
    (c : Ratings) (i : Input) (heard : HeardLead) (volts amperes : Tenths)
    → i.reading ≡ Some (record { volts = volts; amperes = amperes })
    → EachValue c i heard volts amperes
