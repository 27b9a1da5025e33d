-- Laws. For the functions here: numbers in a part of a record, and bytes that are zero.
-- Of the rules: the claim of request 2026-04.
-- For those above: the round trips of a state, and what is read of an input and shown in an output.
pub mod Parts
pub mod Zeros
pub mod RoundTrip
pub mod Shown
pub mod Claimed
