mod Recalling
mod PlaceLaws
pub mod CamLaws
