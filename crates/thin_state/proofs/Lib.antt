pub mod Items
mod ReadingRows
mod Rows
pub mod Unique
