-- a process, and what it is known to keep
pub mod Processes
pub mod Plans
pub mod Audited
pub mod Heeding
-- an attempt at a line, turn by turn
pub mod Turns
pub mod Attempts
-- a miss that is settled
pub mod Settling
-- a write that a reply asks for
pub mod Filling
-- a call at the office
pub mod Entries
-- a line by all that it takes
pub mod Lines
-- several lines in one stay inside
pub mod Stays
