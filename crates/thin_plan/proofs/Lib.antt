pub mod Pairs
pub mod Planned
pub mod Running
