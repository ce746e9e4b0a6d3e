pub mod Writes
pub mod Reading
pub mod Built
pub mod Held
