pub mod Arithmetic
pub mod Division
pub mod Turns
pub mod Types
pub mod Wrapping
