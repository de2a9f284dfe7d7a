pub mod LotLaws
pub mod NameLaws
pub mod StoredLaws
pub mod SoundLaws
pub mod InitiateLaws
pub mod TerminateLaws
pub mod IndexLaws
