pub mod Moves
pub mod Turned
pub mod Turns
