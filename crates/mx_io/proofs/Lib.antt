pub mod BytesLaws
pub mod KnownBytes
