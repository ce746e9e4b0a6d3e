pub mod Effects
pub mod Plans
pub mod Running
pub mod Scenes
