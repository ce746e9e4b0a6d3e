pub mod Spelled
pub mod Strings
pub mod Words
pub mod Sides
pub mod Fixed
pub mod Rows
pub mod Lists
