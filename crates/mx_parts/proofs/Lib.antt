mod AnswerLaws
pub mod BesideLaws
mod EndLaws
pub mod KeptLaws
mod ListLaws
mod NextLaws
pub mod OnwardLaws
mod RestLaws
mod PartLaws
mod ScriptLaws
