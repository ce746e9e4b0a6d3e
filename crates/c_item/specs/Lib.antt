pub mod Fixed
pub mod Typed
pub mod Words
pub mod Kinds
