pub mod CTokens
pub mod Cutting
pub mod Spelled
