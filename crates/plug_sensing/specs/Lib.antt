pub mod Sensing
pub mod Calls
pub mod All
pub mod Lists
pub mod Claims
pub mod Witness
