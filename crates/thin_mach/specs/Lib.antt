pub mod Deciding
pub mod Held
pub mod Runs
