pub mod Names
pub mod Values
pub mod Statements
pub mod Items
pub mod Forms
pub mod Reading
