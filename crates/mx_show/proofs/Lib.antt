pub mod PartLaws
pub mod LinesLaws
pub mod PrintingLaws
