-- The figures of document 01's questions and moves and of document 02's requests, by name. What a reading is compared with is in tenths.
-- Definitions only.
use Rattle.std.specs.Prelude.{ℕ, ◌+◌, ◌*◌}
use Rattle.readings.specs.Value.{tenths_per_unit}
use Rattle.readings.specs.Readings.{tenths, of_units}
use Rattle.readings.specs.declared.Tenths.{Tenths}

-- question 16: "at most the threshold"; 2026-04: "The 10 V limits and question 16 compare in tenths."
abbrev pub most_volts : ℕ → Tenths
most_volts threshold = of_units threshold

-- 2026-04: "Question 17 allows rated + 2.5 A"
abbrev pub more_amperes : Tenths
more_amperes = tenths 25

abbrev pub most_amperes : ℕ → Tenths
most_amperes rated = tenths (tenths_per_unit * rated + more_amperes.0)

-- the moves out of 4 and 9: "connector volts at most 10"; 2026-04: "The 10 V limits … compare in tenths."
abbrev pub discharged_volts : Tenths
discharged_volts = of_units 10

-- 2026-04: "phase 7's ampere limit is 49 tenths"
abbrev pub residual_amperes : Tenths
residual_amperes = tenths 49

-- question 21 and the kept threshold: "at least 50", in whole volts
abbrev pub least_volts : ℕ
least_volts = 50

-- question 19: "Silence below 10?"
abbrev pub silence_end : ℕ
silence_end = 10

-- the moves out of 7 and 8: "age 30 or more", "age 40 or more", in ticks
abbrev pub ramp_down_end : ℕ
ramp_down_end = 30

abbrev pub weld_check_end : ℕ
weld_check_end = 40

-- the want: "command + 2", "command − 10", in amperes a tick
abbrev pub raise : ℕ
raise = 2

abbrev pub fall : ℕ
fall = 10

-- 2026-01: the "largest value" of eight bytes, in watt-ticks
abbrev pub most_energy : ℕ
most_energy = 18446744073709551615
