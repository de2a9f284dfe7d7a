pub mod Changing
pub mod Passing
