pub mod Texts
pub mod Source
pub mod Meaning
pub mod Sound
pub mod Laws
