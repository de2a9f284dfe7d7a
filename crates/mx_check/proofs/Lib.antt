mod WritingLaws
mod SessionLaws
mod JudgementLaws
