pub mod FormLaws
pub mod FieldLaws
pub mod ItemLaws
pub mod PlaceLaws
pub mod FaultLaws
