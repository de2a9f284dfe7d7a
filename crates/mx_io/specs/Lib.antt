pub mod Faults
pub mod Bytes
pub mod Reading
pub mod Writing
pub mod Memory
pub mod Standard
