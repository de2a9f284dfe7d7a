pub mod Accounts
pub mod Verdicts
