pub mod CommandLaws
pub mod VerdictLaws
mod RoomLaws
pub mod SpellingLaws
