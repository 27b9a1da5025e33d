-- Laws that several proofs share, from the plainest on.
pub mod Ceiling
pub mod InRange
pub mod Least
pub mod Bits
pub mod Connector
pub mod Claimed
