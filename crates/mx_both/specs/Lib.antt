pub mod BothTexts
pub mod Ends
pub mod Cutting
pub mod Laws
pub mod Reading
