pub mod PageLaws
pub mod RunLaws
pub mod ScanLaws
