pub mod Calm
pub mod Settled
