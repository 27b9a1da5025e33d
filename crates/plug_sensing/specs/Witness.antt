-- Lists of calls in which something happens. Definitions only.
use Rattle.std.specs.Prelude.{List, [], ◌∷◌, map, ℕ}
use Rattle.plug_sensing.specs.Lists.{Call}

-- a call that lends one byte for the plug, which holds 7 before
abbrev pub of_value : ℕ → Call
of_value millivolts = record { millivolts = millivolts; plug = 7 ∷ [] }

-- lowest, refused, middle, middle: switch S of the connector opens
abbrev pub switch_opens : List Call
switch_opens = map of_value (4000 ∷ 20001 ∷ 6000 ∷ 6000 ∷ [])

-- The middle range at first; then, each between the lowest range and the middle one, which is no longer just after it: a value in either gap,
-- in the 12 V range, below all ranges, and the largest one taken.
abbrev pub not_just_after : List Call
not_just_after = map of_value (6000 ∷ 4000 ∷ 5000 ∷ 6000 ∷ 4000 ∷ 9000 ∷ 6000 ∷ 4000 ∷ 12000 ∷ 6000 ∷ 4000 ∷ 0 ∷ 6000 ∷ 4000 ∷ 20000 ∷ 6000 ∷ [])

-- every end of the two ranges from both sides, the middle range each time just after the lowest
abbrev pub ends : List Call
ends = map of_value (3199 ∷ 3200 ∷ 4800 ∷ 4801 ∷ 4000 ∷ 5199 ∷ 4000 ∷ 5200 ∷ 4000 ∷ 6800 ∷ 4000 ∷ 6801 ∷ [])

-- calls refused with 8 and one refused with 31 stand between the lowest range and the middle one
abbrev pub refused_between : List Call
refused_between =
    of_value 4000
    ∷ record { millivolts = 6000; plug = [] }
    ∷ record { millivolts = 12000; plug = 7 ∷ 7 ∷ [] }
    ∷ of_value 4294967295
    ∷ of_value 6000
    ∷ []
