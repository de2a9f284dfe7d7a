pub mod TwiceLaws
pub mod DefinitionLaws
