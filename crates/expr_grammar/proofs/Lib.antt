pub mod FlatLaws
pub mod LevelLaws
pub mod Answers
