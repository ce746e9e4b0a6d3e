pub mod Five
pub mod Levels
