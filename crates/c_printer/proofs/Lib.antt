pub mod Digits
pub mod Joins
pub mod Voids
pub mod Statics
pub mod Cut
pub mod ReadsBack
