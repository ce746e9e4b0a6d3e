pub mod Splits
pub mod Names
