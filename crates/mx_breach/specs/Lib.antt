pub mod Causes
pub mod Rules
pub mod Verdicts
pub mod Sources
