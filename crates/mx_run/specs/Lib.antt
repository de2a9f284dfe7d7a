pub mod Commands
pub mod Done
pub mod Verdicts
pub mod Statuses
-- helpers that only private contracts cite
pub mod Reading
pub mod Unread
