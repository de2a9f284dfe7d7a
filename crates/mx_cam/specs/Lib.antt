pub mod Cams
pub mod Turns
