pub mod Statuses
pub mod Views
pub mod Commands
pub mod Usage
pub mod PlainTexts
pub mod Orders
-- helpers that only private contracts cite
pub mod Readings
