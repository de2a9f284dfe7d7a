-- the types of a run, and its lines
pub mod Transcripts
pub mod Denials
pub mod Recorded
pub mod Next
pub mod Elements
pub mod Courses
pub mod Operands
pub mod Targets
pub mod Attempts
pub mod Filling
pub mod Asking
pub mod Settings
pub mod Events
pub mod Lines
pub mod Scripts
pub mod Openings
pub mod Parts
-- the rules over deeds, and all rules together
pub mod Opened
pub mod Access
pub mod Uses
pub mod References
pub mod Points
pub mod Misses
pub mod Reads
pub mod FullJournal
pub mod Falls
pub mod Legal
pub mod Runs
-- laws: what follows for a legal run
pub mod Rings
pub mod Printed
pub mod SetupLines
pub mod Grants
pub mod Integrity
pub mod Confidentiality
pub mod Revocation
-- laws: for whoever runs lines
pub mod Dues
pub mod SoFar
pub mod Standing
-- wrong runs that are refused
pub mod WrongLines
pub mod PointerLines
pub mod CallLines
pub mod UpwardLines
pub mod WaitingLines
pub mod LinkLines
pub mod WrongPoints
pub mod WrongReads
pub mod WrongFalls
pub mod WrongSources
pub mod WrongMisses
pub mod WrongJournals
pub mod WrongTranscripts
