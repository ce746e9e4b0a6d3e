pub mod Forms
pub mod Readers
pub mod Exact
pub mod Lists
pub mod Example
