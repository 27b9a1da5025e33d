pub mod Value
pub mod Readings
pub mod Claims
pub mod All
