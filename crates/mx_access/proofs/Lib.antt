pub mod TurnLaws
pub mod PassLaws
pub mod RowLaws
pub mod ChangeLaws
pub mod AllRowLaws
pub mod GoodHierarchies
pub mod GoodStates
