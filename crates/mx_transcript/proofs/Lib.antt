pub mod GoingOn
pub mod Extending
pub mod Outcomes
pub mod AwaitLaws
pub mod FinalReplies
pub mod DueLaws
pub mod Ends
pub mod Moving
pub mod LastReference
pub mod RingLaws
pub mod LegalLaws
pub mod WalkLaws
pub mod TraceLaws
pub mod Growing
pub mod PartLines
pub mod Named
pub mod EventByEvent
mod AskLines
mod SetupLaws
mod WrongLineLaws
mod PointerLineLaws
mod CallLineLaws
mod UpwardLineLaws
mod WaitingLineLaws
mod LinkLineLaws
mod WrongRuleLaws
mod WrongSourceLaws
mod WrongMissLaws
mod WrongJournalLaws
mod GrantLaws
mod IntegrityLaws
mod ConfidentialityLaws
mod RevocationLaws
pub mod RecordedLaws
pub mod DenialLaws
