pub mod Failed
pub mod Stored
