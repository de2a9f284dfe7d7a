pub mod ReplayLaws
pub mod SortLaws
pub mod OrderLaws
pub mod ReferenceLaws
pub mod MomentLaws
pub mod CuttingLaws
