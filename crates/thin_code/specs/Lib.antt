pub mod ThinC
