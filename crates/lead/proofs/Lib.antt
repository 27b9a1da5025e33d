-- Laws. For the functions here: amperes and watts, the first no.
-- Of the rules: the claim of request 2026-04.
-- For those above: what hearing does, where each phase leads, what answers a verdict implies and what its reasons 23 and 14 do, what `decide`
-- does field by field, what a command leaves alone, what the end of a whole tick implies, and that a good lead stays good.
pub mod Watts
pub mod FirstNo
pub mod Claimed
pub mod Hears
pub mod Phases
pub mod Answers
pub mod Withdrawals
pub mod Ticks
pub mod Commands
pub mod WholeTicks
pub mod Goodness
