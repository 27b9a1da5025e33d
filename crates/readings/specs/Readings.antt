-- Document 01, 'Readings', as requests 2026-04 and 2026-08 amend it, and question 27. Definitions only.
use Rattle.std.specs.Prelude.{Bool, true, false, cond, ◌&&◌, ℕ, ◌+◌, ◌-◌, ◌*◌, leb, Option, Some, None, Float}
use Rattle.std.specs.Float.{binary32}
use Rattle.std.specs.Float.Ieee.{le, lt, mul, sub, of_bits}
use Rattle.readings.specs.Value.{number, within, ceiling, tenths_per_unit, least}
use Rattle.readings.specs.declared.Measurement.{Measurement}
use Rattle.readings.specs.declared.Tenths.{Tenths}
use Rattle.readings.specs.declared.MeterErrors.{MeterErrors}
use Rattle.readings.specs.declared.UpperEnd.{UpperEnd}
use Rattle.readings.specs.declared.Measured.{Measured}

-- "A reading is a value or missing": present bit 1 and the float that the bits stand for, or present bit 0, which is None
abbrev pub reading_of : Bool → ℕ → Option Float
reading_of true bits = Some (of_bits binary32 bits)
reading_of false bits = None

-- "0 ≤ volts ≤ 1000 and 0 ≤ amperes ≤ 400; a NaN isn't good, minus zero is zero"
unfoldable pub in_range : Measurement → Bool
in_range m = within 1000 m.volts && within 400 m.amperes

-- "Connector volts … are volts minus cable resistance × amperes: the product rounded once, the difference rounded once, a negative result taken as 0"
unfoldable pub connector_volts : Measurement → Float
connector_volts m =
    let difference = sub binary32 m.volts (mul binary32 m.resistance m.amperes) in
    cond (lt difference (number 0)) (number 0) difference

-- so many tenths of a volt or an ampere: a type of their own, so that no rule takes them for whole ones
abbrev pub tenths : ℕ → Tenths
tenths n = record { 0 = n }

-- 2026-04: "Readings now become the least whole tenth not below the exact value of the float": connector volts as they are after both
-- roundings, amperes as given
unfoldable pub in_tenths : Measurement → Measured
in_tenths m = record { volts = tenths (least (connector_volts m)); amperes = tenths (least m.amperes) }

abbrev pub judged_measurement : Measurement → Option Measured
judged_measurement m = cond (in_range m) (Some (in_tenths m)) None

-- "It is good if both are present" and in range; None is a bad reading. The cable resistance is given by its float's bits.
abbrev pub judged_of : Option Float → Option Float → ℕ → Option Measured
judged_of (Some volts) (Some amperes) bits = judged_measurement (record { volts = volts; amperes = amperes; resistance = of_bits binary32 bits })
judged_of (Some volts) None bits = None
judged_of None amperes bits = None

-- whole volts or amperes in tenths
abbrev pub of_units : ℕ → Tenths
of_units units = tenths (tenths_per_unit * units)

-- 2026-08: "A reading stands for every value from tenths − e (at least 0) to tenths + e."
pub record ValueRange : Type 0 where
  pub tenths : Tenths
  pub error : ℕ

abbrev pub lower_end : ValueRange → Tenths
lower_end range = tenths (range.tenths.0 - range.error)

-- It is not cut off: it may be above 1000 V or 400 A, up to which a reading is good.
abbrev pub upper_end : ValueRange → UpperEnd
upper_end range = record { 0 = range.tenths.0 + range.error }

-- "e = 0": of a reading, and of both meters
abbrev pub exactly : Tenths → ValueRange
exactly judged = record { tenths = judged; error = 0 }

abbrev pub exact_meters : MeterErrors
exact_meters = record { volts = 0; amperes = 0 }

-- what readings are asked, by their upper end: "at most" some tenths
abbrev pub at_most : UpperEnd → Tenths → Bool
at_most end most = leb end.0 most.0

-- 2026-04: "H'109 still carries whole numbers, rounded up from tenths."
abbrev pub whole_units : Tenths → ℕ
whole_units judged = ceiling judged.0 tenths_per_unit

-- question 27: "Resistance, if given, at least 100 ohms × threshold? … A NaN is a no, plus infinity a yes."
abbrev pub insulated : ℕ → Option Float → Bool
insulated threshold (Some ohms) = le (number (100 * threshold)) ohms
insulated threshold None = true

-- setup's question 4: "Resistance 0 to 1, so no NaN?"
unfoldable pub allowed_resistance : ℕ → Bool
allowed_resistance bits = within 1 (of_bits binary32 bits)
