-- The exact value of a float, and the least whole tenth not below it. Definitions only.
-- Floats and their operations are those of `lib.Ieee`: `fin s m e` is the number m × 2 ^ e, negative where s is true, and 2 ^ e is the fraction up e / down e.
use Rattle.std.specs.Prelude.{Bool, true, false, ◌&&◌, ℕ, ◌+◌, ◌-◌, ◌*◌, ◌/◌, ◌≤◌, pos, Float}
use Rattle.std.specs.Float.{nan, inf, fin, binary32}
use Rattle.std.specs.Float.Ieee.{up, down, le, of_int}

-- the whole number n as a float
abbrev pub number : ℕ → Float
number n = of_int binary32 (pos n)

-- 0 ≤ x ≤ top as floats compare: a NaN is in no range, minus zero in each
abbrev pub within : ℕ → Float → Bool
within top x = le (number 0) x && le x (number top)

-- a / c rounded up, for a c above 0
abbrev pub ceiling : ℕ → ℕ → ℕ
ceiling a c = (a + (c - 1)) / c

-- 2026-04, "Tenths of volts and amperes": so many to a volt and to an ampere
abbrev pub tenths_per_unit : ℕ
tenths_per_unit = 10

-- 2026-04: "the least whole tenth not below the exact value of the float". Ten times the value is exact, a fraction, and rounded up but once.
-- Minus zero gives 0. NaN, infinities and negative floats, which no good reading has, give 0 too.
unfoldable pub least : Float → ℕ
least nan = 0
least (inf s) = 0
least (fin true m e) = 0
least (fin false m e) = ceiling (tenths_per_unit * (m * up e)) (down e)

-- what 'not below' means, of a unit cut into so many parts: n parts are at least m × 2 ^ e units
abbrev pub NotBelow : ℕ → Float → ℕ → Type 0
NotBelow parts nan n = ⊥
NotBelow parts (inf s) n = ⊥
NotBelow parts (fin true m e) n = Unit
NotBelow parts (fin false m e) n = parts * (m * up e) ≤ n * down e
