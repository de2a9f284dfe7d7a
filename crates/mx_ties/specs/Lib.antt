-- what is told at the end of a run, and the law that ties it to a legal run
pub mod Views
pub mod Counting
pub mod Fronts
pub mod Closed
pub mod Ran
pub mod Finished
-- under it: the read rule of traces and of transcripts
pub mod Acts
pub mod Uses
pub mod Matching
-- laws: for whoever runs processes
pub mod Going
pub mod SoFar
pub mod Steps
-- laws: and whose lines are right unless a write failed
pub mod AtWork
pub mod Spoilt
pub mod Working
-- an example
pub mod Sample
