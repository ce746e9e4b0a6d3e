pub mod Thin
