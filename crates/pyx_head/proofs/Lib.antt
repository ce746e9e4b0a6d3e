pub mod NoParam
pub mod Valued
