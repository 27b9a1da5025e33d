-- Laws: of sums, of the largest number that passes a test and of the level, which other crates cite; of wants in order, of the way to the
-- level, and of that way as the code goes it. Then the claims.
pub mod Sums
pub mod Laws
pub mod Order
pub mod Way
pub mod Steps
pub mod Claimed
