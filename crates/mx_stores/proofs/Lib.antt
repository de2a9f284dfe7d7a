pub mod LeastLaws
pub mod Drops
pub mod StoresFrom
pub mod SinceLaws
pub mod UntilLaws
pub mod SightedLaws
pub mod Searches
pub mod ChoiceLaws
pub mod ChoicesInOrder
pub mod WholeRuns
mod Tables
mod Finds
mod Choosing
mod EndLaws
mod Grouping
mod FirstLaws
mod Noting
mod Unstored
mod CellLaws
mod Placing
