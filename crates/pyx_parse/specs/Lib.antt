pub mod Below
pub mod NoneMore
pub mod Answer
