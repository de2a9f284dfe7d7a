-- what is decided
pub mod FirstBad
-- helpers: events, ends, and what is left
pub mod Answers
pub mod Ends
pub mod Rests
