pub mod RunText
pub mod Spelling
pub mod Printing
