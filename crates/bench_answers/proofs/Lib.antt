-- Laws: buffers lent in part, what a line comes to, its room, lines out of characters, and a piece read on.
pub mod Fronts
pub mod Setups
pub mod Ticks
pub mod ByLine
pub mod Room
pub mod Lines
pub mod ReadOn
pub mod LineBytes
pub mod WholeInput
