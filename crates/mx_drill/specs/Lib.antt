pub mod Drills
pub mod Numbers
pub mod Summaries
-- helpers that only private contracts cite
pub mod Counting
pub mod Writing
