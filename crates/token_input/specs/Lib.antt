pub mod Answer
pub mod Ended
pub mod Has
pub mod Reads
