-- What remains of a charging time of two bytes fits its unit's byte. Assumes nothing.
use mathlib.Core.Bool.{Bool, true, false, cond}
use Prim.Native.Nat.{ℕ, ◌-◌, ◌<◌}
use native.Mathlib.Omega.{arith}
use Rattle.frames.specs.Times.{in_minutes, charging_ticks, ticks_of_minutes, ticks_of_tens}
use Rattle.frames.specs.declared.times.ChargingTime.{ChargingTime}

-- 256 minutes, or 256 tens of seconds
abbrev pub unit_end : Bool → ℕ
unit_end b = cond b (ticks_of_minutes 256) (ticks_of_tens 256)

pub remaining_fits : (t : ChargingTime) (elapsed : ℕ) → t.tens.0 < 256 → t.minutes.0 < 256 → charging_ticks t - elapsed < unit_end (in_minutes t)
unfolding charging_ticks
remaining_fits t elapsed h k = go (in_minutes t)
  where
    go : (b : Bool) → cond b (ticks_of_minutes t.minutes.0) (ticks_of_tens t.tens.0) - elapsed < unit_end b
    go true = omega arith
    go false = omega arith
