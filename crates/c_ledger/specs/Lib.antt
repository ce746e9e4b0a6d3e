pub mod Counted
pub mod Ledger
pub mod Newest
pub mod OfNewest
