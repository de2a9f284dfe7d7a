pub mod StatusLaws
pub mod OrderLaws
pub mod PlainLaws
pub mod WordLaws
