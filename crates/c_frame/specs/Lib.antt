pub mod Cells
pub mod Firsts
pub mod Lines
pub mod Spots
pub mod Tables
