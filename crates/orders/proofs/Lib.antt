-- Laws of texts, places and choices, the claims, and what is computed.
pub mod PlaceBytes
pub mod Spelled
pub mod Cuts
pub mod Digits
pub mod Fields
pub mod Reading
pub mod Accepted
pub mod Choices
pub mod Alike
pub mod Reordered
pub mod Claimed
pub mod Witnessed
