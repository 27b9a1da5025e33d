-- Requests 2026-04 and 2026-08: what they say of readings, and some floats and readings worked out. Definitions only.
use Rattle.std.specs.Prelude.{true, List, [], ◌∷◌, ◌≡◌, ℕ, ◌≤◌, T, leb, Some, Float}
use Rattle.std.specs.Float.{binary32}
use Rattle.std.specs.Float.Ieee.{of_bits}
use Rattle.readings.specs.Value.{NotBelow}
use Rattle.readings.specs.Readings.{connector_volts, judged_of, allowed_resistance, of_units, ValueRange, lower_end, upper_end, exactly, at_most, whole_units}
use Rattle.readings.specs.declared.Tenths.{Tenths}

-- n is the least number of parts not below the value of a float, where a unit has so many parts: it is not below, and nothing smaller is
pub record IsLeast (parts : ℕ) (x : Float) (n : ℕ) : Type 0 where
  pub not_below : NotBelow parts x n
  pub nothing_smaller : (k : ℕ) → NotBelow parts x k → n ≤ k

-- the volts at the connector, both roundings done, of a cable resistance that is given by its float's bits
abbrev pub connector_of : Float → Float → ℕ → Float
connector_of volts amperes resistance = connector_volts (record { volts = volts; amperes = amperes; resistance = of_bits binary32 resistance })

-- Something said of both values of every good reading and of the tenths that they become. The cable resistance is one that setup's question 4
-- and the good-state check let through.
abbrev pub OfEachGood : (Float → Tenths → Type 0) → Type 0
OfEachGood Said =
    (volts amperes : Float) (resistance : ℕ) (v a : Tenths)
    → allowed_resistance resistance ≡ true
    → judged_of (Some volts) (Some amperes) resistance ≡ Some (record { volts = v; amperes = a })
    → Said (connector_of volts amperes resistance) v × Said amperes a

-- "Readings now become the least whole tenth not below the exact value of the float."
abbrev pub LeastTenth : Type 0
LeastTenth = OfEachGood (λ x judged. IsLeast 10 x judged.0)

-- "rounded up from tenths": that is the least whole number not below the value itself
abbrev pub LeastWhole : Type 0
LeastWhole = OfEachGood (λ x judged. IsLeast 1 x (whole_units judged))

-- "compare in tenths": with an exact meter a limit of whole volts or amperes answers in tenths as it does of the least whole number not below the
-- value
abbrev pub WholeLimits : Type 0
WholeLimits = OfEachGood (λ x judged. (n units : ℕ) → IsLeast 1 x n → at_most (upper_end (exactly judged)) (of_units units) ≡ leb n units)

-- 2026-08: "A reading stands for every value from tenths − e (at least 0) to tenths + e."
pub record StandsFor (range : ValueRange) (x : Tenths) : Type 0 where
  pub from : (lower_end range).0 ≤ x.0
  pub to : x.0 ≤ (upper_end range).0

-- "With e = 0 all answers are those before": both ends of the range are the reading's tenths.
abbrev pub ExactEnds : Type 0
ExactEnds = (judged : Tenths) → ((lower_end (exactly judged)).0 ≡ judged.0) × ((upper_end (exactly judged)).0 ≡ judged.0)

-- "Wherever such a question is passed, each value in the range would have passed it": where the upper end is at most so much each value is, and
-- where each is the upper end is.
pub record EachAtMost (range : ValueRange) (most : Tenths) : Type 0 where
  pub each : T (at_most (upper_end range) most) → (x : Tenths) → StandsFor range x → T (at_most (upper_end (exactly x)) most)
  pub only : ((x : Tenths) → StandsFor range x → T (at_most (upper_end (exactly x)) most)) → T (at_most (upper_end range) most)

-- the bits of a float, its tenths and the whole number that H'109 carries of it
pub record Worked : Type 0 where
  pub bits : ℕ
  pub tenths : ℕ
  pub whole : ℕ

abbrev pub worked_floats : List Worked
worked_floats =
    -- zero, minus zero, and the smallest float above 0
    record { bits = 0; tenths = 0; whole = 0 }
    ∷ record { bits = 0x8000_0000; tenths = 0; whole = 0 }
    ∷ record { bits = 1; tenths = 1; whole = 1 }
    -- the float nearest to 0.1 is above it; ten times it, worked out in floats, would be 1
    ∷ record { bits = 0x3dcc_cccd; tenths = 2; whole = 1 }
    -- the float below 4.9 and the one nearest to it, which is above
    ∷ record { bits = 0x409c_cccc; tenths = 49; whole = 5 }
    ∷ record { bits = 0x409c_cccd; tenths = 50; whole = 5 }
    -- 10 and the float above it
    ∷ record { bits = 0x4120_0000; tenths = 100; whole = 10 }
    ∷ record { bits = 0x4120_0001; tenths = 101; whole = 11 }
    -- 127.5, which is 125 + 2.5, and the float above it
    ∷ record { bits = 0x42ff_0000; tenths = 1275; whole = 128 }
    ∷ record { bits = 0x42ff_0001; tenths = 1276; whole = 128 }
    -- the largest good volts, 1000
    ∷ record { bits = 0x447a_0000; tenths = 10000; whole = 1000 }
    ∷ []

-- the bits of volts, amperes and cable resistance, and the tenths of the good reading that they are
pub record WorkedReading : Type 0 where
  pub volts : ℕ
  pub amperes : ℕ
  pub resistance : ℕ
  pub connector_tenths : ℕ
  pub ampere_tenths : ℕ

abbrev pub worked_readings : List WorkedReading
worked_readings =
    -- 400.25 V and 0.1 A, no resistance
    record { volts = 0x43c8_2000; amperes = 0x3dcc_cccd; resistance = 0; connector_tenths = 4003; ampere_tenths = 2 }
    -- 400 V, 100 A, 0.5 ohm
    ∷ record { volts = 0x43c8_0000; amperes = 0x42c8_0000; resistance = 0x3f00_0000; connector_tenths = 3500; ampere_tenths = 1000 }
    -- 1 V, 400 A, 1 ohm: a negative difference
    ∷ record { volts = 0x3f80_0000; amperes = 0x43c8_0000; resistance = 0x3f80_0000; connector_tenths = 0; ampere_tenths = 4000 }
    ∷ []
