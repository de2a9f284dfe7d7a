pub mod Lots
pub mod Sections
pub mod Names
pub mod KnownSegments
pub mod Initiating
pub mod Terminating
pub mod Index
pub mod Stored
