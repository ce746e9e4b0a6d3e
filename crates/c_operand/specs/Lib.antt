pub mod Listed
pub mod Operators
pub mod Values
