mod NumberLaws
pub mod PrintingLaws
pub mod TailLaws
pub mod EventLaws
pub mod RunLaws
