pub mod Words
pub mod Nodes
pub mod Grammar
pub mod Factored
pub mod Reading
pub mod Files
pub mod Laws
