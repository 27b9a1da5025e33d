-- Request 2026-08, "Meters of a stated class": "Wherever such a question is passed, each value in the range would have passed it", over every list
-- of calls. Definitions only.
use Rattle.std.specs.Prelude.{List, ◌≡◌, ℕ, ◌<◌, T, length, Some}
use Rattle.readings.specs.Claims.{StandsFor}
use Rattle.readings.specs.declared.Tenths.{Tenths}
use Rattle.lead.specs.Names.{overvoltage, overcurrent}
use Rattle.lead.specs.Hearing.{hear}
use Rattle.lead.specs.Questions.{volts_range, amperes_range, view_of}
use Rattle.lead.specs.Moves.{may_move}
use Rattle.lead.specs.Claims.{with_volts, with_amperes, Passes}
use Rattle.lead.specs.declared.state.HeardLead.{HeardLead}
use Rattle.lead.specs.declared.questions.View.{View}
use Rattle.post.specs.Rules.{input_at}
use Rattle.post.specs.declared.head.Head.{Head}
use Rattle.safety.specs.Lists.{Tick}
use Rattle.safety.specs.Demand3.{inputs_at, leads_before, Moves}

-- The list, as demand 3 has it: what setup fixed, and the ticks that returned 0. Ticks and leads are numbered from 0.
module _ (h : Head) (ticks : List Tick) where
  -- the lead once it has heard the tick's frames, and what its questions and moves look at beside it
  abbrev pub heard_at : ℕ → ℕ → HeardLead
  heard_at t k = hear (input_at h (inputs_at h ticks t) k) (leads_before h ticks t k)

  abbrev pub view_at : ℕ → ℕ → View
  view_at t k = view_of h.ratings (input_at h (inputs_at h ticks t) k) (heard_at t k)

  -- the tick's good reading stands for this value: of its volts, and of its amperes
  pub record VoltsMayBe (t k : ℕ) (x : Tenths) : Type 0 where
    pub volts : Tenths
    pub amperes : Tenths
    pub reads : (input_at h (inputs_at h ticks t) k).reading ≡ Some (record { volts = volts; amperes = amperes })
    pub stands : StandsFor (volts_range h.ratings.errors volts) x

  pub record AmperesMayBe (t k : ℕ) (x : Tenths) : Type 0 where
    pub volts : Tenths
    pub amperes : Tenths
    pub reads : (input_at h (inputs_at h ticks t) k).reading ≡ Some (record { volts = volts; amperes = amperes })
    pub stands : StandsFor (amperes_range h.ratings.errors amperes) x

  -- "Questions 16 and 17, both 10 V limits and the end of phase 7": the whole question or move holds with the value in the reading's place
  pub record Ranges : Type 0 where
    pub question_16 :
        (t k : ℕ) (x : Tenths)
        → t < length ticks
        → k < h.leads
        → VoltsMayBe t k x
        → Passes overvoltage (view_at t k) (heard_at t k)
        → Passes overvoltage (with_volts x (view_at t k)) (heard_at t k)
    pub question_17 :
        (t k : ℕ) (x : Tenths)
        → t < length ticks
        → k < h.leads
        → AmperesMayBe t k x
        → Passes overcurrent (view_at t k) (heard_at t k)
        → Passes overcurrent (with_amperes x (view_at t k)) (heard_at t k)
    pub from_4_to_5 :
        (t k : ℕ) (x : Tenths)
        → t < length ticks
        → k < h.leads
        → VoltsMayBe t k x
        → Moves h ticks t k 4 5
        → T (may_move (with_volts x (view_at t k)) (heard_at t k))
    pub from_7_to_8 :
        (t k : ℕ) (x : Tenths)
        → t < length ticks
        → k < h.leads
        → AmperesMayBe t k x
        → Moves h ticks t k 7 8
        → T (may_move (with_amperes x (view_at t k)) (heard_at t k))
    pub from_9_to_10 :
        (t k : ℕ) (x : Tenths)
        → t < length ticks
        → k < h.leads
        → VoltsMayBe t k x
        → Moves h ticks t k 9 10
        → T (may_move (with_volts x (view_at t k)) (heard_at t k))
