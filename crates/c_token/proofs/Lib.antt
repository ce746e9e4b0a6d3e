pub mod Cut
pub mod Tokens
