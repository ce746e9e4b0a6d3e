pub mod Breaches
pub mod First
pub mod Given
pub mod GivenShown
