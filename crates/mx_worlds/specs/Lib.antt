pub mod Listing
pub mod Shows
pub mod Seating
pub mod Marking
pub mod Tables
pub mod Running
