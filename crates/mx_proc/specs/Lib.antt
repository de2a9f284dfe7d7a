-- what auditors are told
pub mod Auditors
-- the processes of a run in a row, and what they leave
pub mod Rows
pub mod Leaving
pub mod Ending
-- auditors that are given to processes
pub mod Seating
