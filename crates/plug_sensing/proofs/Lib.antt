-- The claims, and the lists that are computed.
pub mod Claimed
pub mod Witnessed
