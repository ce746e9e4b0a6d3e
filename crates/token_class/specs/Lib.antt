pub mod Classes
pub mod Every
pub mod Sets
