pub mod ReplyLaws
pub mod HistoryLaws
pub mod PartLaws
pub mod SetupLaws
pub mod AskLaws
