pub mod Alone
pub mod Failing
pub mod Last
pub mod Once
pub mod Stops
