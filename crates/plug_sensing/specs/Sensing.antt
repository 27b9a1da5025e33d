-- Document 02, 2026-07: what a value of detection point 1 says of the plug. Definitions only.
use Rattle.std.specs.Prelude.{Bool, ◌&&◌, ◌||◌, ℕ}
use Rattle.common.specs.Tests.{between}
use Rattle.plug_sensing.specs.declared.Sensed.{Sensed}

-- "detection point 1 in millivolts, by Table B.2: 11,200–12,800, 5,200–6,800, 3,200–4,800, ends included". The table has them as U1a, U1b
-- and U1c.
abbrev pub is_twelve_volts : ℕ → Bool
is_twelve_volts = between 11200 12800

abbrev pub is_middle : ℕ → Bool
is_middle = between 5200 6800

abbrev pub is_lowest : ℕ → Bool
is_lowest = between 3200 4800

-- "The lowest range is closed. The middle range is closed only in the tick just after the lowest; a second in a row is open (200 ms in the
-- source). All else is open." The bool that is kept tells whether the value before lay in the lowest range.
unfoldable pub sensed : Bool → ℕ → Sensed
sensed was_lowest millivolts = record {
  closed = is_lowest millivolts || (is_middle millivolts && was_lowest);
  lowest = is_lowest millivolts;
}
