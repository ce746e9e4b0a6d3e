pub mod Counts
pub mod Newest
