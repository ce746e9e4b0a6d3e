pub mod CText
