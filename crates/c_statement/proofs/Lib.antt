pub mod Behind
pub mod Chain
pub mod FirstTokens
pub mod Labels
pub mod Putting
pub mod Spelt
pub mod Starts
pub mod Told
