pub mod TakingLaws
pub mod SleepingLaws
