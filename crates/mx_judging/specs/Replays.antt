-- The access of a process at a point, as it is found by running the plain supervisor again over the journal.
use Rattle.std.specs.Prelude.{◌≡◌, ℕ, ◌≤◌, List, length, take, Option}
use Rattle.mx_core.specs.declared.elements.Element.{Element}
use Rattle.mx_acl.specs.declared.modes.Modes.{Modes}
use Rattle.mx_transcript.specs.Opened.{opening_of}
use Rattle.mx_name.specs.Identifiers.{PlainAclId}
use Rattle.mx_script.specs.Sessions.{Outline}
use Rattle.mx_sdw.specs.Descriptors.{Descriptor}
use Rattle.mx_state.specs.DecidingEntry.{entry_behind}
use Rattle.mx_state.specs.History.{replay, IsRight}
use Rattle.mx_state.specs.Plain.{Plain}
use Rattle.mx_state.specs.Table.{descriptor}
use Rattle.mx_state.specs.declared.journal.Entry as journaled

-- a journal of a session, and how many of its entries were run
pub record Replayed : Type 0 where
  pub session : Outline
  pub journal : List journaled.Entry
  pub at : ℕ

abbrev pub replayed : Outline → List journaled.Entry → ℕ → Replayed
replayed session journal at = record { session = session; journal = journal; at = at }

-- the journal is right, and the state is what its first entries leave
pub record IsReplay (r : Replayed) (state : Plain) : Type 0 where
  pub right : IsRight (opening_of r.session) r.journal
  pub within : r.at ≤ length r.journal
  pub state_is : state ≡ replay (opening_of r.session) (take r.at r.journal)
  pub processes : length state.processes ≡ length r.session.principals

-- it is the same journal
pub record IsSameJournal (old new : Replayed) : Type 0 where
  pub session : new.session ≡ old.session
  pub journal : new.journal ≡ old.journal

-- what a process has under a segment number behind so many entries: the descriptor, and the entry of an access list that gave
-- it its modes, none where there is none
abbrev pub descriptor_after : Outline → List journaled.Entry → ℕ → ℕ → ℕ → Descriptor
descriptor_after x journal at p segno = descriptor (replay (opening_of x) (take at journal)) p segno

abbrev pub entry_after : Outline → List journaled.Entry → ℕ → ℕ → ℕ → Option (PlainAclId × Modes)
entry_after x journal at p segno = entry_behind (replay (opening_of x) (take at journal)) p segno

-- the descriptor of an element, at its point
abbrev pub access_of : Outline → List journaled.Entry → ℕ → Element → Descriptor
access_of x journal p e = descriptor (replay (opening_of x) (take e.point journal)) p e.segno

-- the entry of an access list that gave this descriptor its modes, none where there is none
abbrev pub entry_of : Outline → List journaled.Entry → ℕ → Element → Option (PlainAclId × Modes)
entry_of x journal p e = entry_behind (replay (opening_of x) (take e.point journal)) p e.segno
