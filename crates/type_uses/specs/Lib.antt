pub mod Shown
pub mod Trees
pub mod Uses
pub mod Words
