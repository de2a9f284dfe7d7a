pub mod OrderLaws
pub mod TurnLaws
pub mod CountLaws
pub mod FirstLaws
mod PlaceLaws
mod RunLaws
mod AllOrderLaws
mod ExploredLaws
mod TextLaws
pub mod WholeRunLaws
