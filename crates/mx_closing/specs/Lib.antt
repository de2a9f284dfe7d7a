pub mod Views
pub mod Keeping
pub mod Closing
pub mod Opening
pub mod Preparing
