pub mod Deciding
pub mod Indexes
pub mod Leading
