pub mod Modes
pub mod Access
pub mod Deciding
pub mod InitialLists
