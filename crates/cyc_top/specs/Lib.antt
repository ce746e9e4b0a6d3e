pub mod Build
pub mod Command
pub mod Statuses
