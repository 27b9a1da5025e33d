-- Request 2026-04: what H'109 carries of a good reading. Definitions only.
use Rattle.std.specs.Prelude.{Bool, true, List, ◌≡◌, ℕ, ◌+◌, min, T, Float, Some}
use Rattle.little_endian.specs.Numbers.{byte_at, u16_at}
use Rattle.readings.specs.Readings.{judged_of, allowed_resistance}
use Rattle.readings.specs.Claims.{IsLeast, connector_of}
use Rattle.readings.specs.declared.Tenths.{Tenths}
use Rattle.common.specs.Tests.{between}
use Rattle.lead.specs.declared.state.Lead.{Lead}
use Rattle.lead.specs.declared.state.Ratings.{Ratings}
use Rattle.lead_records.specs.Outputs.{output_of}

-- H'109 stands from byte 16 of an output on: "1–2 connector volts; 3 amperes, at most 255"
pub record Carries (output : List ℕ) (volts amperes : ℕ) : Type 0 where
  pub volts_carried : u16_at output (16 + 1) ≡ volts
  pub amperes_carried : byte_at output (16 + 3) ≡ min amperes 255

-- "H'109 still carries whole numbers, rounded up from tenths": they are the least whole numbers not below the values themselves. It is sent in
-- phases 1 to 9.
abbrev pub WholeCarried : Type 0
WholeCarried =
    (c : Ratings) (level : ℕ) (lock : Bool) (s : Lead) (volts amperes : Float) (v a : Tenths) (n k : ℕ)
    → T (between 1 9 s.stage.phase)
    → allowed_resistance c.resistance ≡ true
    → judged_of (Some volts) (Some amperes) c.resistance ≡ Some (record { volts = v; amperes = a })
    → IsLeast 1 (connector_of volts amperes c.resistance) n
    → IsLeast 1 amperes k
    → Carries (output_of c level lock (Some (record { volts = v; amperes = a })) s) n k
