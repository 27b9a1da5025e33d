pub mod Records
pub mod Times
pub mod Heard
pub mod Sent
pub mod All
