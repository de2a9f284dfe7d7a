pub mod Registers
pub mod Loading
pub mod Transfers
