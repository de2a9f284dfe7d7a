pub mod Rules
pub mod Searching
