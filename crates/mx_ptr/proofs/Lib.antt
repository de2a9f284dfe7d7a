pub mod DigitLaws
pub mod PointerLaws
