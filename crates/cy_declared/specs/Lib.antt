pub mod Around
pub mod Functions
pub mod Members
pub mod Named
pub mod Shown
pub mod Tables
pub mod Types
pub mod Variables
