pub mod Reads
pub mod Types
pub mod Literals
pub mod Addresses
