pub mod Bodies
pub mod Fits
pub mod Searches
