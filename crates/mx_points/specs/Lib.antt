pub mod Fronts
pub mod FrontLaws
pub mod Seen
pub mod Own
