pub mod BoxLaws
pub mod PieceLaws
mod PageLaws
pub mod EscapeLaws
