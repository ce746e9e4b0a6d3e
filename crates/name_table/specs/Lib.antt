pub mod Entries
pub mod EntriesShown
pub mod Laws
pub mod Shown
