-- The claim of request 2026-04 on H'109 holds, and a frame is worked out. Assumes nothing.
use mathlib.Core.Bool.{true}
use mathlib.Core.Path.{◌≡◌, refl, ap, ◌∙◌}
use Prim.Native.Nat.{ℕ, min}
use lib.Ieee.{of_bits, of_int, le, lt, eq, mul, sub}
use Rattle.little_endian.proofs.Bytes.{u16_back}
use Rattle.readings.specs.Value.{least}
use Rattle.readings.specs.Readings.{reading_of, in_range, connector_volts, in_tenths, judged_of, whole_units}
use Rattle.readings.proofs.Claimed.{only_one, least_whole}
use Rattle.frames.specs.Sent.{offer_bytes, report_bytes}
use Rattle.common.specs.Tests.{between}
use Rattle.common.proofs.Bools.{is_true}
use Rattle.lead.specs.Leads.{blank}
use Rattle.lead.specs.declared.state.Ratings.{Ratings}
use Rattle.lead_records.specs.Outputs.{shown_bytes, report_of, output_of}
use Rattle.lead_records.specs.Claims.{Carries, WholeCarried}

pub whole_carried : WholeCarried
unfolding output_of shown_bytes offer_bytes report_bytes report_of
whole_carried c level lock s volts amperes v a n k sent allowed good volts_least amperes-least =
    let shown = least_whole volts amperes c.resistance v a allowed good in
    let e : between 1 9 s.stage.phase ≡ true = is_true (between 1 9 s.stage.phase) sent in
    record {
      volts_carried = rw e (u16_back (whole_units v) ∙ only_one shown.0 volts_least);
      amperes_carried = rw e (ap (λ (m : ℕ). min m 255) (only_one shown.1 amperes-least));
    }

-- 400.25 V and 255.5 A at a lead that charges; H'109 does not know how far off the meters may be
abbrev ratings : Ratings
ratings = record { volts = 500; amperes = 200; resistance = 0; errors = record { volts = 50; amperes = 50 } }

pub worked_report : Carries (output_of ratings 0 true (judged_of (reading_of true 0x43c8_2000) (reading_of true 0x437f_8000) 0) (blank 6)) 401 256
unfolding output_of shown_bytes offer_bytes report_bytes report_of in_range connector_volts in_tenths least of_bits of_int le lt eq mul sub
worked_report = record { volts_carried = refl; amperes_carried = refl }
