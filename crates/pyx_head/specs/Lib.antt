pub mod NoneMore
