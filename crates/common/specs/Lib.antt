pub mod Tests
pub mod Parts
pub mod Refusals
pub mod Texts
pub mod All
