pub mod Answers
pub mod Counts
pub mod Disk
pub mod Memory
pub mod Store
pub mod Told
