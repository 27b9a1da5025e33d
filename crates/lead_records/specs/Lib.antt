pub mod States
pub mod Inputs
pub mod Outputs
pub mod Turns
pub mod Claims
pub mod All
