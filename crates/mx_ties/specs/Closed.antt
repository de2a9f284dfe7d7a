-- What the office, which keeps the journal for all processes, tells when it is closed: of the journal, and of the
-- passes that it took back.
use Rattle.std.specs.Prelude.{◌≡◌, ℕ, ◌<◌, ◌≤◌, List, [], ◌++◌, map, take, length, Some, slice_get}
use Rattle.mx_transcript.specs.Opened.{opening_of}
use Rattle.mx_state.specs.History.{IsRight}
use Rattle.mx_state.specs.declared.journal.Entry as journaled
use Rattle.mx_script.specs.Sessions.{Outline, limit_of}
use Rattle.mx_transcript.specs.Courses.{Judged}
use Rattle.mx_ties.specs.Counting.{AreProcesses, total}
use Rattle.mx_reads.specs.Deeds.{CellUse, Deeds}
use Rattle.mx_transcript.specs.Access.{descriptor_of}
use Rattle.mx_transcript.specs.Legal.{setup_entries, call_of, setup_call}
use Rattle.mx_transcript.specs.Misses.{IsChanged}
use Rattle.mx_transcript.specs.Uses.{use_of}
use Rattle.mx_reads.specs.ReadRule.{known_by, AreRightReads}
use Rattle.mx_ties.specs.Fronts.{front_after}
use Rattle.mx_ties.specs.Views.{Referred, Missed, Marked, View, deed_kept}

abbrev pub entry_in : Marked → journaled.Entry
entry_in marked = marked.entry

abbrev pub maker : journaled.Entry → ℕ
maker entry = entry.process

-- the entries after these of the setup
abbrev pub followed : List journaled.Entry → List Marked → List journaled.Entry
followed setup history = setup ++ map entry_in history

-- the traces as deeds, by the uses of cells; the initializer has none
abbrev pub traces : (ℕ → ℕ → CellUse) → (ℕ → View) → Deeds
traces use_of views p = map (deed_kept use_of) (views p).trace

-- what holds of the pass of process p: its history is a front of the whole one, its floor within the journal; the
-- descriptor beside each element is that of the tables, and each miss names an entry that changed its pair
pub record IsRetired (x : Outline) (setup : List journaled.Entry) (history : List Marked) (p : ℕ)
    (v : View) : Type 0 where
  pub later : List Marked
  pub told : history ≡ v.history ++ later
  pub floor : v.floor ≤ length (followed setup history)
  pub elements : (i : ℕ) (j : Judged) → slice_get v.trace i ≡ Some (Referred j)
      → j.desc ≡ descriptor_of x (followed setup history) p j.element
  pub misses : (i segno by : ℕ) → slice_get v.trace i ≡ Some (Missed segno by)
      → (by ≤ length (followed setup history)) × IsChanged x (followed setup history) p segno by

-- what is told of all
pub record IsClosed (x : Outline) (setup : List journaled.Entry) (history : List Marked)
    (views : ℕ → View) : Type 0 where
  -- the journal is within its limit, one history of the plain supervisor, and begins with the setup
  pub within_limit : length (followed setup history) ≤ limit_of x
  pub right : IsRight (opening_of x) (followed setup history)
  pub setup_first : take (setup_entries x) (map call_of (followed setup history)) ≡ take (setup_entries x)
      (map setup_call x.setup)
  -- the setup has its entries, all of them the initializer's; every later one is a process's
  pub setup_length : length setup ≡ setup_entries x
  pub setup_makers : (i : ℕ) (entry : journaled.Entry) → slice_get setup i ≡ Some entry → entry.process ≡ 0
  pub makers : AreProcesses (length x.principals) (map maker (map entry_in history))
  -- nobody but the processes refers to memory
  pub quiet : (views 0).trace ≡ []
  pub beyond : (p : ℕ) → length x.principals < p → (views p).trace ≡ []
  -- each pass is tied to the journal
  pub retired : (p : ℕ) → 1 ≤ p → p ≤ length x.principals → IsRetired x setup history p (views p)
  -- each word read is the store that the read rule gives, by what is known in traces; cells are used as the journal says
  pub reads : AreRightReads (traces (use_of x (followed setup history)) views) (known_by (front_after (length setup) history))
  -- the ledger's sum: the passes count as many entries as there are
  pub counted : total (length x.principals) (λ p. (views p).amount) ≡ length history
