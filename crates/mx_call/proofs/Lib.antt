pub mod EightLaws
pub mod RegisterLaws
