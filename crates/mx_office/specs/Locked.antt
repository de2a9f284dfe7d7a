-- What the office keeps under its lock: whenever the lock is free, nothing is pending, and what the supervisor at the
-- shared words knows is the journal since the opening.
use Rattle.std.specs.Prelude.{◌≡◌, ℕ, suc, ◌+◌, ◌<◌, ◌≤◌, true, false, IsTrue, List, [], ◌∷◌, ◌++◌, length, take, Some, slice_get}
use Rattle.mx_closing.specs.Keeping.{AreMakers}
use Rattle.mx_closing.specs.Views.{marked_in}
use Rattle.mx_core.specs.Pages.{page_of}
use Rattle.mx_pages.specs.Runs.{is_free, page_count}
use Rattle.mx_request.specs.Versions.{last_number}
use Rattle.mx_rule.specs.Shown.{office_of}
use Rattle.mx_rule.specs.Telling.{AreRightWords}
use Rattle.mx_rule.specs.declared.layout.Layout.{Layout}
use Rattle.mx_rule.specs.declared.views.SuperView.{SuperView}
use Rattle.mx_script.specs.Sessions.{Outline}
use Rattle.mx_sdw.specs.Admissible.{IsAdmissible}
use Rattle.mx_state.specs.Given.{gives}
use Rattle.mx_state.specs.History.{replay}
use Rattle.mx_state.specs.Plain.{Plain}
use Rattle.mx_state.specs.declared.journal.Entry as journaled
use Rattle.mx_sup.specs.Supervised.{Supervised, IsHistory, state_of}
use Rattle.mx_ties.specs.Closed.{followed}
use Rattle.mx_transcript.specs.Access.{descriptor_at}
use Rattle.mx_transcript.specs.Legal.{setup_entries}
use Rattle.mx_transcript.specs.Opened.{opening_of}

-- the plain supervisor's state after so many entries
abbrev pub state_at : Outline → List journaled.Entry → ℕ → Plain
state_at x journal point = replay (opening_of x) (take point journal)

-- these are the setup's entries, all of them the initializer's
pub record IsSetupOf (x : Outline) (setup : List journaled.Entry) : Type 0 where
  pub count : length setup ≡ setup_entries x
  pub makers : (i : ℕ) (entry : journaled.Entry) → slice_get setup i ≡ Some entry → entry.process ≡ 0

-- All cells of free pages are clean, and all other pages ready. The pages that an entry gave are those that the plain
-- supervisor gives out there.
pub record ArePages (s : Supervised) (v : SuperView journaled.Entry) : Type 0 where
  pub clean : (cell : ℕ) → page_of cell < page_count → is_free (state_of s).hierarchy.pages (page_of cell) ≡ true
      → IsTrue ((office_of v).clean cell)
  pub ready : (page : ℕ) → page < page_count → is_free (state_of s).hierarchy.pages page ≡ false
      → IsTrue ((office_of v).ready page)
  pub given : (q page : ℕ) → v.start ≤ q → q < v.length → page < page_count
      → (office_of v).given (q + 1) page ≡ gives (state_at s.session s.journal q) (state_at s.session s.journal (q + 1)) page

-- the shared words have the processes and the numbers of the session
pub record IsLaidFor (x : Outline) (y : Layout) : Type 0 where
  pub processes : y.processes ≡ length x.principals
  pub numbers : y.numbers ≡ last_number x.version + 1

pub record IsLocked (x : Outline) (setup : List journaled.Entry) (y : Layout) (s : Supervised)
    (v : SuperView journaled.Entry) (total : ℕ) : Type 0 where
  -- the journal is right and within its limit, and begins with the setup
  pub session : s.session ≡ x
  pub history : IsHistory s
  pub opened : IsSetupOf x setup
  pub laid : IsLaidFor x y
  -- nothing is pending
  pub rest : v.length ≤ v.answered
  -- the history and the tables are those of the journal from the setup on
  pub journal : s.journal ≡ followed setup (marked_in v.history)
  pub start : v.start ≡ length setup
  pub makers : AreMakers v.start v.history
  pub tables : (q p n : ℕ) → v.start ≤ q → q ≤ v.length
      → (office_of v).table q p n ≡ descriptor_at x s.journal q p n
  pub admissible : (q p n : ℕ) → v.start ≤ q → q ≤ v.length → IsAdmissible ((office_of v).table q p n)
  -- each word is right, with what is known settled
  pub words : AreRightWords (office_of v)
  pub pages : ArePages s v
  -- the book counts the entries by processes; the pass of each was dealt, and none came back
  pub counted : total ≡ length v.history
  pub dealt : v.next ≡ suc (length x.principals)
  pub out : v.retired ≡ []
