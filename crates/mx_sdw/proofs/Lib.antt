pub mod Orders
pub mod OctalLaws
pub mod JudgingLaws
pub mod SameLaws
pub mod WordLaws
