pub mod Processes
pub mod Sending
pub mod Taking
pub mod Sleeping
