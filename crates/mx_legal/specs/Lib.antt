pub mod Entries
pub mod Fronts
pub mod Breach
pub mod BreachLaws
pub mod Deciding
pub mod Judging
