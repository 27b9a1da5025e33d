-- The claims of requests 2026-04 and 2026-08 on questions and moves hold, and what is worked out is what it is said to be. Assumes nothing.
use mathlib.Core.Bool.{Bool, true, false, ◌&&◌, ◌||◌}
use mathlib.Core.List.{map}
use mathlib.Core.Path.{◌≡◌, refl}
use Prim.Native.Nat.{ℕ}
use lib.Dec.{T, leb, eqb}
use lib.Ieee.{of_bits, of_int, le, lt, eq, mul, sub}
use Rattle.std.specs.Prelude.{Option, Some}
use Rattle.readings.specs.Value.{least}
use Rattle.readings.specs.Readings.{reading_of, in_range, connector_volts, in_tenths, judged_of, of_units, upper_end, exactly, at_most}
use Rattle.readings.specs.Claims.{StandsFor}
use Rattle.readings.specs.declared.Tenths.{Tenths}
use Rattle.readings.proofs.Claimed.{whole_limits, each_at_most}
use Rattle.lead.specs.Figures.{most_volts, most_amperes, discharged_volts, residual_amperes, ramp_down_end}
use Rattle.lead.specs.Questions.{volts_range, amperes_range, meter_of, unless_bad, threshold_now, view_of, questions}
use Rattle.lead.specs.Moves.{discharged, ramped_down, if_good, moves}
use Rattle.lead.specs.Claims.{VoltsAsWhole, WorkedVolts, worked_volts, with_volts, with_amperes, EachValue, EachValuePasses}
use Rattle.lead.specs.declared.state.Ratings.{Ratings}
use Rattle.lead.specs.declared.state.Input.{Input}
use Rattle.lead.specs.declared.state.HeardLead.{HeardLead}
use Rattle.lead.specs.declared.questions.Meter.{Meter}
use Rattle.lead.specs.declared.questions.View.{View}

pub volts_as_whole : VoltsAsWhole
unfolding view_of questions moves
volts_as_whole c i heard volts amperes v a n exact allowed good reads whole =
    let within : (units : ℕ) → at_most (upper_end (exactly v)) (of_units units) ≡ leb n units =
    λ units. (whole_limits volts amperes c.resistance v a allowed good).0 n units whole in
    record {
      question_16 = rw (reads, exact) (within (threshold_now c heard));
      out_of_4 = rw (reads, exact) (within 10);
      out_of_9 = rw (reads, exact) (within 10);
    }

-- what is judged of the volts, without current and resistance
abbrev meter_at : WorkedVolts → Option Meter
meter_at case = meter_of (record { volts = case.error; amperes = 0 }) (judged_of (reading_of true case.bits) (reading_of true 0) 0)

pub worked_fits :
    map (λ case. unless_bad (λ meter. at_most meter.volts (most_volts 400)) (meter_at case)) worked_volts ≡ map (λ case. case.fits) worked_volts
unfolding in_range connector_volts in_tenths least of_bits of_int le lt eq mul sub
worked_fits = refl

pub worked_discharged : map (λ case. unless_bad discharged (meter_at case)) worked_volts ≡ map (λ case. case.discharged) worked_volts
unfolding in_range connector_volts in_tenths least of_bits of_int le lt eq mul sub
worked_discharged = refl

-- the move out of 7, with another answer in the place of its ampere limit's
in_its_place : (zero met other old : Bool) → (T met → T other) → T (zero && met || old) → T (zero && other || old)
in_its_place false met other old f t = t
in_its_place true met true old f t = tt
in_its_place true true false old f t = absurd (f tt)
in_its_place true false false old f t = t

module _
    (c : Ratings) (i : Input) (heard : HeardLead) (volts amperes : Tenths)
    (reads : i.reading ≡ Some (record { volts = volts; amperes = amperes })) where
  abbrev v : View
  v = view_of c i heard

  -- the limits that the tick's figures meet are met by each value
  volts_pass :
      (x most : Tenths)
      → StandsFor (volts_range c.errors volts) x
      → T (unless_bad (λ meter. at_most meter.volts most) v.meter)
      → T (unless_bad (λ meter. at_most meter.volts most) (with_volts x v).meter)
  unfolding view_of
  volts_pass x most stands passes = rw reads ((each_at_most (volts_range c.errors volts) most).each (rw reads at passes) x stands)

  amperes_pass :
      (x most : Tenths)
      → StandsFor (amperes_range c.errors amperes) x
      → T (unless_bad (λ meter. at_most meter.amperes most) v.meter)
      → T (unless_bad (λ meter. at_most meter.amperes most) (with_amperes x v).meter)
  unfolding view_of
  amperes_pass x most stands passes = rw reads ((each_at_most (amperes_range c.errors amperes) most).each (rw reads at passes) x stands)

  good_volts_pass :
      (x : Tenths)
      → StandsFor (volts_range c.errors volts) x
      → T (if_good discharged v.meter)
      → T (if_good discharged (with_volts x v).meter)
  unfolding view_of
  good_volts_pass x stands passes =
      rw reads ((each_at_most (volts_range c.errors volts) discharged_volts).each (rw reads at passes) x stands)

  passes_each : EachValue c i heard volts amperes
  unfolding questions moves
  passes_each =
      record {
        question_16 = λ x stands passes. (passes.0, volts_pass x (most_volts v.threshold) stands passes.1);
        question_17 = λ x stands passes. (passes.0, amperes_pass x (most_amperes v.rated) stands passes.1);
        out_of_4 = λ x. volts_pass x discharged_volts;
        out_of_7 =
            λ x stands.
            in_its_place (eqb heard.lead.command 0) (unless_bad ramped_down v.meter) (unless_bad ramped_down (with_amperes x v).meter)
            (leb ramp_down_end heard.lead.stage.age)
            (amperes_pass x residual_amperes stands);
        out_of_9 = good_volts_pass;
      }

pub each_value : EachValuePasses
each_value = passes_each
