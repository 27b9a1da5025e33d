-- Document 01, 'Bench program': what a line comes to, and what a piece of input comes to.
pub mod Rooms
pub mod Posts
pub mod Buffers
pub mod Pieces
pub mod Progress
