pub mod Sessions
pub mod SessionTexts
pub mod FirstBadLine
pub mod Fronts
pub mod Fields
pub mod Reading
pub mod Drafts
pub mod Progress
