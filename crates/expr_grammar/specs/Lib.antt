pub mod Words
pub mod Nodes
pub mod Grammar
pub mod Reading
pub mod Laws
