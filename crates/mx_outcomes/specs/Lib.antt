-- the orders in which the lines of processes may come
pub mod Interleavings
-- how many they are
pub mod Counts
-- helpers: the parts of an order that the next one changes
pub mod Turning
-- what a line came to in a run
pub mod Words
-- what lines came to in many runs, counted
pub mod Tallies
-- how that is told
pub mod RowTexts
-- what that says of the runs
pub mod OfRuns
-- helpers: where a row stands
pub mod Places
-- all orders of lines
pub mod AllOrders
-- a run without auditors
pub mod WholeRuns
-- runs in all of them, and what the lines came to
pub mod Explored
-- how that is told
pub mod OutcomesTexts
-- helpers: a run more, and what is told
pub mod Exploring
