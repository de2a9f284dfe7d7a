mod Places
mod SeenLaws
pub mod FirstBad
pub mod PointLaws
pub mod MissLaws
pub mod LineLaws
pub mod NamingLaws
pub mod FullLaws
pub mod SetupLaws
