-- Demand 3 over the trace of the rules: what one tick does to one lead (Steps), then a file for each claim (Closed to Zeros), and the demand
-- from them all (OverRules). That the bytes follow the rules, call by call (Agreement, Outputs, Numbers). The claims of requests 2026-01
-- (Energy), 2026-05 (Offers), 2026-06 (Withdrawals, on which the demand rests too) and 2026-08 (Ranges). The demands and these claims over every
-- list of calls (Demands). What the checker computes: the starred cases and four sessions.
pub mod Steps
pub mod Closed
pub mod Heard
pub mod Raises
pub mod Shares
pub mod Zeros
pub mod Agreement
pub mod Outputs
pub mod Withdrawals
pub mod OverRules
pub mod Energy
pub mod Offers
pub mod Ranges
pub mod Numbers
pub mod Demands
pub mod Starred
pub mod Session
