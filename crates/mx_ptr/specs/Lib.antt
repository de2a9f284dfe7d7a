pub mod Pointers
pub mod Digits
