-- Laws: pairs of hex digits, fields, lines by their first word, and texts written into a buffer.
pub mod Pairs
pub mod Cuts
pub mod Rests
pub mod Words
pub mod Filled
pub mod DoneText
