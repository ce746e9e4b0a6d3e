pub mod FunctionsShown
pub mod Mentions
pub mod Modules
pub mod Shown
pub mod Trees
