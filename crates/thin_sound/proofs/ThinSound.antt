-- The C of a thin file means what its source means.
pub mod Parameters
pub mod Function
pub mod Initialisation
pub mod Theorem
