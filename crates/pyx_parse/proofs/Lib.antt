pub mod NoArgument
pub mod Whole
