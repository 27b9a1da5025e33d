pub mod Numbers
pub mod Flags
