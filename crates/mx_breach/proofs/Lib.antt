mod BesideLaws
mod RuleLaws
mod CauseLaws
mod SourceLaws
