pub mod EveryOne
pub mod Samples
pub mod Laws
