-- What the supervisor's seat keeps of a session: its journal after the setup, and the plain supervisor's tables.
use Rattle.std.specs.Prelude.{◌≡◌, ℕ, ◌+◌, ◌<◌, ◌≤◌, List, [], ◌∷◌, length}
use Rattle.mx_pages.specs.Runs.{page_count}
use Rattle.mx_rule.specs.Shown.{office_of}
use Rattle.mx_rule.specs.declared.views.EntryView.{EntryView}
use Rattle.mx_rule.specs.declared.views.SuperView.{SuperView}
use Rattle.mx_script.specs.Sessions.{Outline}
use Rattle.mx_sdw.specs.Admissible.{IsAdmissible}
use Rattle.mx_state.specs.declared.journal.Entry as journaled
use Rattle.mx_sup.specs.Supervised.{supervised, IsHistory}
use Rattle.mx_ties.specs.Closed.{followed}
use Rattle.mx_transcript.specs.Access.{descriptor_at}
use Rattle.mx_transcript.specs.Legal.{setup_entries}
use Rattle.mx_transcript.specs.Uses.{given_by}
use Rattle.mx_closing.specs.Views.{marked_in}

-- each entry of a history, the last one first, is of the process that the journal says, and in its place after so many
abbrev pub AreMakers : ℕ → List (EntryView journaled.Entry) → Type 0
AreMakers start [] = Unit {0}
AreMakers start (entry ∷ history) =
    (entry.process ≡ entry.entry.process) × (entry.before ≡ start + length history) × AreMakers start history

-- The setup and then the seat's history are a history of the plain supervisor for this session. The seat has the
-- session's processes, and from the setup on its tables are the plain supervisor's at each point, and so are the pages
-- that entries give out.
pub record KeepsJournal (x : Outline) (setup : List journaled.Entry) (v : SuperView journaled.Entry) : Type 0 where
  pub history : IsHistory (supervised x (followed setup (marked_in v.history)))
  pub setup_length : length setup ≡ setup_entries x
  pub begun : v.start ≡ length setup
  pub counted : v.start + length v.history ≡ v.length
  pub answered : v.answered ≤ v.length
  pub processes : v.processes ≡ length x.principals
  pub makers : AreMakers v.start v.history
  pub tables : (q p n : ℕ) → v.start ≤ q → q ≤ v.length → 1 ≤ p → p ≤ length x.principals
      → (office_of v).table q p n ≡ descriptor_at x (followed setup (marked_in v.history)) q p n
  -- each descriptor that stood is one that a table may hold
  pub admissible : (q p n : ℕ) → v.start ≤ q → q ≤ v.length → 1 ≤ p → p ≤ length x.principals
      → IsAdmissible ((office_of v).table q p n)
  -- the pages that an entry gave out are those that the plain supervisor gives out there
  pub given : (q page : ℕ) → v.start ≤ q → q < v.length → page < page_count
      → (office_of v).given (q + 1) page ≡ given_by x (followed setup (marked_in v.history)) (q + 1) page
