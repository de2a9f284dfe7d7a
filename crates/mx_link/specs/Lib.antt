pub mod Targets
pub mod Leading
