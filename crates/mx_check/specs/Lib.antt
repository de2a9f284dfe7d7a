pub mod Judgements
pub mod Laws
