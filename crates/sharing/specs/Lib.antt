pub mod Level
pub mod Way
pub mod Claims
pub mod All
