pub mod Answers
pub mod Admissible
pub mod Questions
pub mod Passing
pub mod Rows
pub mod AllRows
