pub mod Heads
pub mod Rules
pub mod Turns
pub mod Refusals
pub mod Calls
pub mod All
