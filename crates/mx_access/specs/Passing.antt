-- Helpers that only private contracts cite: how the plain supervisor goes through a journal and is asked.
use Rattle.std.specs.Prelude.{◌≡◌, ℕ, ◌≤◌, ◌<◌, Bool, true, false, if◌then◌else◌, List, length, take, Option, None, Some, slice_get, slice_index_or, slice_set}
use Rattle.mx_access.specs.declared.passing.Asked.{Asked}
use Rattle.mx_access.specs.declared.questions.Question.{Question}
use Rattle.mx_access.specs.declared.questions.Told.{Told}
use Rattle.mx_access.specs.declared.questions.Turn.{Turn}
use Rattle.mx_core.specs.Pages.{cell_at, page_of, use_at}
use Rattle.mx_pages.specs.Runs.{page_count}
use Rattle.mx_pages.specs.declared.pages.PageRun.{PageRun}
use Rattle.mx_script.specs.Sessions.{Outline}
use Rattle.mx_state.specs.Given.{is_page_of}
use Rattle.mx_state.specs.History.{replay}
use Rattle.mx_state.specs.Plain.{Plain}
use Rattle.mx_state.specs.Table.{descriptor}
use Rattle.mx_state.specs.declared.journal.Entry as journaled
use Rattle.mx_transcript.specs.Access.{descriptor_at}
use Rattle.mx_transcript.specs.Opened.{opening_of}
use Rattle.mx_transcript.specs.Uses.{given_by}

-- the use of each page at a point, by page
pub record AreUses (session : Outline) (journal : List journaled.Entry) (at : ℕ) (uses : List ℕ) : Type 0 where
  pub long : length uses ≡ page_count
  pub each : (page : ℕ) → page < page_count → slice_index_or uses page 0 ≡ use_at 0 (given_by session journal) page at

-- the entry that gave out each page last, where one of this number gave out a run
pub record AreNoted (old : List ℕ) (given : Option PageRun) (number : ℕ) (new : List ℕ) : Type 0 where
  pub long : length new ≡ length old
  pub each : (page : ℕ) → page < page_count
      → slice_index_or new page 0 ≡ (if is_page_of given page then number else slice_index_or old page 0)

-- the supervisor has come to this point of the journal
pub record IsAt (session : Outline) (journal : List journaled.Entry) (at : ℕ) (now : Plain) (held : List ℕ) : Type 0 where
  pub within : at ≤ length journal
  pub state : now ≡ replay (opening_of session) (take at journal)
  pub processes : length now.processes ≡ length session.principals
  pub uses : AreUses session journal at held

-- what was asked last is what this state says
abbrev pub IsAsked : Plain → Option Asked → Type 0
IsAsked state None = Unit {0}
IsAsked state (Some asked) = asked.desc ≡ descriptor state asked.process asked.segno

-- what is left of it at another point: what holds of it at the one holds at the other
abbrev pub IsAskedTo : ℕ → ℕ → Option Asked → Option Asked → Type 0
IsAskedTo at point old new = (state : ℕ → Plain) → IsAsked (state at) old → IsAsked (state point) new

-- what it says there: the descriptor before, or the descriptor and the use of the word's page
abbrev pub told_by : Plain → List ℕ → Turn → Bool → Told → Told
told_by state uses t true told = record told { before = descriptor state t.process t.segno }
told_by state uses t false told = record told {
  desc = descriptor state t.process t.segno;
  since = slice_index_or uses (page_of (cell_at (descriptor state t.process t.segno) t.word)) 0;
}

-- the question whose turn it is was answered so, and no other
pub record IsToldAt (state : Plain) (uses : List ℕ) (t : Turn) (old new : List Told) : Type 0 where
  pub answer : Told
  pub was : slice_get old t.at ≡ Some answer
  pub told : new ≡ slice_set old t.at (told_by state uses t t.is_before answer)

-- what was told is so, of the descriptor before the point
pub record IsToldBefore (session : Outline) (journal : List journaled.Entry) (question : Question) (told : Told) : Type 0 where
  pub desc : told.before ≡ descriptor_at session journal question.before question.process question.segno

-- and of the descriptor at the point, and of the use of the word's page
pub record IsToldNow (session : Outline) (journal : List journaled.Entry) (question : Question) (told : Told) : Type 0 where
  pub desc : told.desc ≡ descriptor_at session journal question.point question.process question.segno
  pub since : page_of (cell_at told.desc question.word) < page_count
      → told.since ≡ use_at 0 (given_by session journal) (page_of (cell_at told.desc question.word)) question.point

abbrev pub IsToldIn : Outline → List journaled.Entry → Question → Bool → Told → Type 0
IsToldIn session journal question true told = IsToldBefore session journal question told
IsToldIn session journal question false told = IsToldNow session journal question told

-- the first so many turns have been answered
pub record AreToldTo (session : Outline) (journal : List journaled.Entry) (questions : List Question) (turns : List Turn) (count : ℕ)
    (told : List Told) : Type 0 where
  pub long : length told ≡ length questions
  pub each : (k : ℕ) (t : Turn) (question : Question) (answer : Told) → k < count → slice_get turns k ≡ Some t
      → slice_get questions t.at ≡ Some question → slice_get told t.at ≡ Some answer
      → IsToldIn session journal question t.is_before answer

-- no turn from this one on is before the point
abbrev pub AreNotBefore : List Turn → ℕ → ℕ → Type 0
AreNotBefore turns count at = (k : ℕ) (t : Turn) → count ≤ k → slice_get turns k ≡ Some t → at ≤ t.point

-- the answer to a question
pub record IsTold (session : Outline) (journal : List journaled.Entry) (question : Question) (told : Told) : Type 0 where
  pub now : IsToldNow session journal question told
  pub before : question.before < question.point → IsToldBefore session journal question told

pub record AreTold (session : Outline) (journal : List journaled.Entry) (questions : List Question) (told : List Told) : Type 0 where
  pub long : length told ≡ length questions
  pub each : (at : ℕ) (question : Question) (answer : Told) → slice_get questions at ≡ Some question → slice_get told at ≡ Some answer
      → IsTold session journal question answer
