mod LinkTargets
mod ToldTargets
mod Outcomes
pub mod PrintedLaws
