-- A run that meets what the law of finished runs asks for.
use Rattle.std.specs.Prelude.{◌≡◌, ℕ, ◌+◌, ◌≤◌, List, length}
use Rattle.mx_state.specs.declared.journal.Entry as journaled
use Rattle.mx_script.specs.Sessions.{Outline}
use Rattle.mx_transcript.specs.Legal.{IsLegal}
use Rattle.mx_transcript.specs.Transcripts.{Step, part}
use Rattle.mx_ties.specs.Closed.{followed, IsClosed}
use Rattle.mx_ties.specs.Ran.{HasRun, IsSetUp}
use Rattle.mx_ties.specs.Views.{Marked, View}

pub record Sample : Type 0 where
  pub x : Outline
  pub setup : List journaled.Entry
  pub history : List Marked
  pub transcripts : List (List Step)
  pub views : ℕ → View
  pub parts : length transcripts ≡ 1 + length x.principals
  pub closed : IsClosed x setup history views
  pub set_up : IsSetUp x setup (part transcripts 0)
  pub ran : (p : ℕ) → 1 ≤ p → p ≤ length x.principals → HasRun x setup p (part transcripts p) (views p)
  pub legal : IsLegal x (followed setup history) transcripts
