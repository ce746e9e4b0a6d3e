pub mod Declarations
pub mod DeclarationsShown
pub mod Rules
