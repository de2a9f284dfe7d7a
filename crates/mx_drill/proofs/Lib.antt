pub mod ListLaws
pub mod DrillLaws
pub mod SessionLaws
pub mod CountLaws
pub mod WritingLaws
pub mod NumberLaws
