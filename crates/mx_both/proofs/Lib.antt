pub mod EndLaws
pub mod CuttingLaws
pub mod BothLaws
