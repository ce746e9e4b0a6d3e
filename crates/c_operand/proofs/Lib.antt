pub mod Closed
pub mod Commas
pub mod Fixed
pub mod Signs
pub mod Opens
pub mod Tokens
