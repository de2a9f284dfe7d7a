pub mod Supervised
pub mod Entering
pub mod Setups
