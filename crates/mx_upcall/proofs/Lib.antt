pub mod HistoryLaws
pub mod GateLaws
pub mod UpcallLaws
pub mod ControlLaws
pub mod ChangeLaws
