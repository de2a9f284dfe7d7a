pub mod Gates
pub mod Histories
pub mod Upcalls
pub mod Control
pub mod Changes
pub mod Soundness
