pub mod Fields
pub mod Lines
pub mod Versions
pub mod Forms
pub mod Pieces
pub mod Places
pub mod Orders
pub mod Objects
pub mod Faults
-- helpers that only private contracts cite
pub mod Findings
pub mod Diagnoses
