-- The starred cases of document 01, in its order, those of readings as 2026-04 has them: what the rules give, beside what is stated.
-- Definitions only.
use Rattle.std.specs.Prelude.{true, false, cond, List, [], ◌∷◌, ◌++◌, ℕ, zero, suc, ◌-◌, Float, Option, Some, None, pos, negsuc, length, replicate}
use Rattle.std.specs.Float.{fin}
use Rattle.common.specs.Tests.{same}
use Rattle.readings.specs.Value.{number}
use Rattle.readings.specs.Readings.{of_units, judged_of, exact_meters}
use Rattle.frames.specs.Times.{time_of, charging_ticks}
use Rattle.sharing.specs.Level.{want_of, level_of}
use Rattle.lead.specs.Names.{insulation_test, charging, no_reason, low_insulation}
use Rattle.lead.specs.Questions.{meter_of, got_no}
use Rattle.lead.specs.Power.{wanted_watts, commanded}
use Rattle.lead.specs.declared.state.Lead.{Lead}
use Rattle.lead.specs.declared.state.Input.{Input}
use Rattle.lead.specs.declared.state.Ratings.{Ratings}
use Rattle.lead.specs.declared.questions.Meter.{Meter}
use Rattle.lead_records.specs.Inputs.{contacts_of}
use Rattle.post.specs.Heads.{input_length, head_from}
use Rattle.post.specs.Rules.{tick_input, lead_after}

-- a case: its number here, what the rules give, what the papers state
pub record Case : Type 0 where
  pub number : ℕ
  pub computed : List ℕ
  pub stated : List ℕ

-- 400.25 V: 1601 × 2 ^ -2
abbrev volts_400_25 : Float
volts_400_25 = fin false 1601 (negsuc 1)

abbrev minus_zero : Float
minus_zero = fin true 0 (pos 0)

-- of a meter's reading, 0 of a bad one
abbrev tenths_of_volts : Option Meter → ℕ
tenths_of_volts (Some meter) = meter.volts.0
tenths_of_volts None = 0

-- tenths of a volt at the connector, from volts, amperes and the bits of the cable resistance
abbrev connector : Float → Float → ℕ → ℕ
connector volts amperes resistance = tenths_of_volts (meter_of exact_meters (judged_of (Some volts) (Some amperes) resistance))

-- a post's ratings
abbrev ratings : Ratings
ratings = record { volts = 500; amperes = 200; resistance = 0; errors = exact_meters }

-- a lead at 400 V whose car asks for some amperes, for 600 ticks
abbrev lead_at : ℕ → ℕ → ℕ → Lead
lead_at phase command request =
    record {
      stage = record { phase = phase; reason = no_reason; age = 0 };
      energy = 0;
      command = command;
      threshold = 400;
      car =
          record {
            battery = record { seen = true; value = 400 };
            time = record { seen = true; value = time_of 6 0 };
            status = record { seen = true; value = record { target = 400; request = request; faults = 0; flags = 1 } };
            silence = 0;
          };
    }

-- plug, charge permission and lock closed, a good reading, some insulation resistance
abbrev tested : ℕ → Input
tested ohms =
    record {
      contacts = contacts_of 7;
      reading = Some (record { volts = of_units 400; amperes = of_units 0 });
      insulation = Some (number ohms);
      frames = record { battery = None; time = None; status = None };
    }

-- 1 where question 27 passes
abbrev insulation_passes : ℕ → ℕ
insulation_passes ohms = cond (got_no ratings (tested ohms) (lead_at insulation_test 0 0) low_insulation) 0 1

abbrev level_for : List ℕ → ℕ → ℕ
level_for wants limit = level_of (length wants) (want_of wants) limit

-- wants, level and commands of two leads at 400 V that ask for 25 and 150 A
abbrev shared : ℕ → List ℕ
shared limit =
    let first : Lead = lead_at charging 25 25 in
    let second : Lead = lead_at charging 150 150 in
    let wants : List ℕ = wanted_watts ratings first ∷ wanted_watts ratings second ∷ [] in
    wants ++ (level_for wants limit ∷ (commanded ratings (level_for wants limit) first).command ∷ (commanded ratings (level_for wants limit)
    second).command ∷ [])

-- raw input of one lead: 100,000 W; plug, charge permission and lock closed, stop button pressed; 390 V and 0 A; no frames
abbrev stop_input : List ℕ
stop_input = (0xa0 ∷ 0x86 ∷ 1 ∷ 0 ∷ []) ++ (0x17 ∷ 3 ∷ 0 ∷ 0 ∷ []) ++ (0 ∷ 0 ∷ 0xc3 ∷ 0x43 ∷ []) ++ replicate (input_length 1 - 12) 0

-- the command after some ticks with the stop button pressed, from 125 A on
abbrev stopping : ℕ → ℕ → Lead
stopping zero = λ k. lead_at charging 125 125
stopping (suc t) =
    lead_after
    (head_from (record { leads = 1; volts = 500; amperes = 125; resistance = 0; errors = record { volts = 0; amperes = 0 } }))
    (tick_input stop_input) (stopping t)

unfoldable pub cases : List Case
cases =
    -- "400.25 V, no resistance", and 2026-04: "starred cases now 4,003, 3,500 and 0 tenths"
    record { number = 1; computed = connector volts_400_25 (number 100) 0 ∷ []; stated = 4003 ∷ [] }
    -- "400 V, 100 A, 0.5 ohm"
    ∷ record { number = 2; computed = connector (number 400) (number 100) 0x3f00_0000 ∷ []; stated = 3500 ∷ [] }
    -- "Minus zero: 0.", of volts, amperes and resistance
    ∷ record { number = 3; computed = connector minus_zero minus_zero 0x8000_0000 ∷ []; stated = 0 ∷ [] }
    -- "6 gives 600 ticks"
    ∷ record { number = 4; computed = charging_ticks (time_of 6 0) ∷ []; stated = 600 ∷ [] }
    -- "H'FF with 6 gives 3,600"
    ∷ record { number = 5; computed = charging_ticks (time_of 0xff 6) ∷ []; stated = 3600 ∷ [] }
    -- "0 gives 0."
    ∷ record { number = 6; computed = charging_ticks (time_of 0 0) ∷ []; stated = 0 ∷ [] }
    -- "At 400 V, 40,000 passes, 39,999 doesn't."
    ∷ record { number = 7; computed = insulation_passes 40000 ∷ insulation_passes 39999 ∷ []; stated = 1 ∷ 0 ∷ [] }
    -- "Wants 10,000 and 60,000, allowance 50,000: level 40,000; at 400 V, 25 and 100 A."
    ∷ record { number = 8; computed = shared 50000; stated = 10000 ∷ 60000 ∷ 40000 ∷ 25 ∷ 100 ∷ [] }
    -- "60,000 twice, 50,001: 25,000."
    ∷ record { number = 9; computed = level_for (60000 ∷ 60000 ∷ []) 50001 ∷ []; stated = 25000 ∷ [] }
    -- "No wants, allowance 7: 7."
    ∷ record { number = 10; computed = level_for [] 7 ∷ []; stated = 7 ∷ [] }
    -- "Three wants of 100, 200: 66."
    ∷ record { number = 11; computed = level_for (100 ∷ 100 ∷ 100 ∷ []) 200 ∷ []; stated = 66 ∷ [] }
    -- "Allowance 0: 0."
    ∷ record { number = 12; computed = level_for (100 ∷ []) 0 ∷ []; stated = 0 ∷ [] }
    -- "Command 125, ordinary stop, allowance ample: 115 in that tick, 5 in the 12th, 0 in the 13th."
    ∷ record {
      number = 13;
      computed = (stopping 1 0).command ∷ (stopping 12 0).command ∷ (stopping 13 0).command ∷ [];
      stated = 115 ∷ 5 ∷ 0 ∷ [];
    }
    ∷ []

-- the numbers of those that differ
abbrev pub wrong : List Case → List ℕ
wrong [] = []
wrong (c ∷ rest) = cond (same c.computed c.stated) (wrong rest) (c.number ∷ wrong rest)
