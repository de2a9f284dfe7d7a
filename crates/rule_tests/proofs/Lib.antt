pub mod ChangeLaws
pub mod CamLaws
pub mod PassLaws
