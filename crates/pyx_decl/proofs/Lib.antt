pub mod Other
pub mod EndOf
pub mod Whole
pub mod Known
