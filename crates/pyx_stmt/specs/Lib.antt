pub mod Assigned
pub mod Has
