pub mod PlaceLaws
pub mod RowLaws
pub mod SeatLaws
pub mod PartLaws
pub mod ToldLaws
pub mod EndLaws
