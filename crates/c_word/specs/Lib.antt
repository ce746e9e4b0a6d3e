pub mod Keywords
pub mod Numbers
