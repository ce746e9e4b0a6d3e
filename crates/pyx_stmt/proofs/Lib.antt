pub mod Chain
pub mod Definite
