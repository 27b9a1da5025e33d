pub mod Registers
pub mod Chip
pub mod Calls
pub mod All
