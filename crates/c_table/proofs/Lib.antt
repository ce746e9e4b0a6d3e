mod Ends
mod Fields
pub mod Lacking
mod Parted
pub mod Spelled
pub mod Steps
pub mod TypeSpelled
