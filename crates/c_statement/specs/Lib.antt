pub mod Seen
pub mod Sources
pub mod Stores
pub mod Statements
pub mod Lines
