pub mod FirstTokens
pub mod HeadRows
pub mod Rows
pub mod Texts
