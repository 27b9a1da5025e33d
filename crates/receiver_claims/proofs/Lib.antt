-- Laws: bytes after stores, what is held, what a call leaves, one call, the order kept by every call, and the claims.
pub mod Stores
pub mod Held
pub mod Left
pub mod OneCall
pub mod Overtaking
pub mod Claimed
pub mod Witnessed
