-- A run whose processes have all run, and whose office is closed, is legal.
use Rattle.std.specs.Prelude.{◌≡◌, ℕ, ◌+◌, ◌≤◌, List, length}
use Rattle.mx_state.specs.declared.journal.Entry as journaled
use Rattle.mx_script.specs.Sessions.{Outline}
use Rattle.mx_ties.specs.Closed.{followed, IsClosed}
use Rattle.mx_transcript.specs.Legal.{IsLegal}
use Rattle.mx_ties.specs.Ran.{HasRun, IsSetUp}
use Rattle.mx_transcript.specs.Transcripts.{Step, part}
use Rattle.mx_ties.specs.Views.{Marked, View}

abbrev pub FinishedLaw : Type 0
FinishedLaw = (x : Outline) (setup : List journaled.Entry) (history : List Marked) (transcripts : List (List Step))
    (views : ℕ → View)
    → length transcripts ≡ 1 + length x.principals
    → IsClosed x setup history views
    → IsSetUp x setup (part transcripts 0)
    → ((p : ℕ) → 1 ≤ p → p ≤ length x.principals → HasRun x setup p (part transcripts p) (views p))
    → IsLegal x (followed setup history) transcripts
