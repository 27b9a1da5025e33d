-- Document 01, 'Frames': the charging time of H'101 and the remaining time of H'109. Definitions only.
use Rattle.std.specs.Prelude.{Bool, cond, ℕ, ◌-◌, ◌*◌, ◌/◌, eqb}
use Rattle.frames.specs.declared.times.ChargingTime.{ChargingTime}

-- ten ticks a second
abbrev pub ticks_of_tens : ℕ → ℕ
ticks_of_tens tens = 100 * tens

abbrev pub ticks_of_minutes : ℕ → ℕ
ticks_of_minutes minutes = 600 * minutes

-- rounded down
abbrev pub tens_of_ticks : ℕ → ℕ
tens_of_ticks ticks = ticks / 100

abbrev pub minutes_of_ticks : ℕ → ℕ
minutes_of_ticks ticks = ticks / 600

-- of the two bytes
abbrev pub time_of : ℕ → ℕ → ChargingTime
time_of tens minutes = record { tens = record { 0 = tens }; minutes = record { 0 = minutes } }

-- "byte 1 charging time in tens of seconds; if it is H'FF, byte 2 gives minutes"
abbrev pub in_minutes : ChargingTime → Bool
in_minutes t = eqb t.tens.0 0xff

unfoldable pub charging_ticks : ChargingTime → ℕ
charging_ticks t = cond (in_minutes t) (ticks_of_minutes t.minutes.0) (ticks_of_tens t.tens.0)

-- Remaining time is the charging time less the ticks elapsed, "at least 0".
-- "If byte 1 of the kept H'101 isn't H'FF, byte 6 has tens of seconds rounded down and byte 7 is 0; else byte 6 is H'FF and byte 7 has minutes rounded down."
unfoldable pub remaining_time : ChargingTime → ℕ → ChargingTime
remaining_time t elapsed =
    let left = charging_ticks t - elapsed in
    cond (in_minutes t) (time_of 0xff (minutes_of_ticks left)) (time_of (tens_of_ticks left) 0)
