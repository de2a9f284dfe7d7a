pub mod SupersetLaws
pub mod DominanceLaws
pub mod TextLaws
