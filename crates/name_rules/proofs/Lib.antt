pub mod ModuleRules
pub mod OneMore
