pub mod InForm
pub mod Rows
pub mod ThinSound
