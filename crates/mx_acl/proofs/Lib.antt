pub mod EntryLaws
pub mod AclLaws
pub mod DecidingLaws
pub mod RankLaws
pub mod ModesLaws
