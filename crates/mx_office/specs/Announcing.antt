-- An entry is announced: from its coming until its process was told of it.
use Rattle.std.specs.Prelude.{◌≡◌, ◌≢◌, ℕ, ◌+◌, ◌<◌, ◌≤◌, List, ◌∷◌, length, Option, Some, IfSome, slice_get}
use Rattle.mx_core.specs.declared.changes.Change.{Change}
use Rattle.mx_core.specs.declared.changes.Run.{Run}
use Rattle.mx_pages.specs.Runs.{IsPageRun}
use Rattle.mx_pages.specs.declared.pages.PageRun.{PageRun}
use Rattle.mx_rule.specs.Appending.{MayAppend, appended_view}
use Rattle.mx_rule.specs.Fronts.{IsFront}
use Rattle.mx_rule.specs.Notes.{joined_view, noted_view}
use Rattle.mx_rule.specs.Shown.{Office, all_told, office_of, reported_of}
use Rattle.mx_rule.specs.declared.views.EntryView.{EntryView}
use Rattle.mx_rule.specs.declared.views.PassView.{PassView}
use Rattle.mx_rule.specs.declared.views.SuperView.{SuperView}
use Rattle.mx_office.specs.Clearing.{AreBare, cleared_pages}
use Rattle.mx_office.specs.Revoking.{revoked_view}
use Rattle.mx_office.specs.Settling.{settled_views}

-- what one entry of a process brings: what it changed, and which pages it gave out and freed
pub record Coming (E : Type 0) : Type 0 where
  pub process : ℕ
  pub changes : List Change
  pub given : List Run
  pub freed : Option PageRun
  pub entry : E

abbrev pub coming : {E : Type 0} → ℕ → List Change → List Run → Option PageRun → E → Coming E
coming process changes given freed entry = record {
  process = process;
  changes = changes;
  given = given;
  freed = freed;
  entry = entry;
}

abbrev pub came_view : {E : Type 0} → Coming E → SuperView E → SuperView E
came_view e v = appended_view e.process e.changes e.given e.entry v

-- it comes, is revoked and answered, the cells of its freed pages are cleared, and its own process's words settled
abbrev pub announced_view : {E : Type 0} → Coming E → SuperView E → SuperView E
announced_view e v =
    settled_views e.process e.changes (cleared_pages e.freed (revoked_view e.changes (came_view e v)))

-- each listed descriptor is another than the present one
abbrev pub AreNews : Office → List Change → Type 0
AreNews x changes = (i : ℕ) (c : Change) → slice_get changes i ≡ Some c → x.table x.length c.process c.segno ≢ c.desc

-- nothing is pending; its process was told of answered entries alone, and what it did is reported; the entry may come,
-- and after it no descriptor covers a page that it freed
pub record MayAnnounce {E : Type 0} (e : Coming E) (v : SuperView E) (u : PassView E) : Type 0 where
  pub own : e.process ≡ u.process
  pub rest : v.length ≤ v.answered
  pub floor : u.floor ≤ v.answered
  pub reported : length u.trace ≤ reported_of v.reported u.process
  pub may : MayAppend (office_of v) e.process e.changes e.given
  pub news : AreNews (office_of v) e.changes
  pub run : IfSome e.freed IsPageRun
  pub bare : AreBare (office_of (came_view e v)) e.freed

-- the entry as the history has it: its mark counts what its process did
abbrev pub entry_of : {E : Type 0} → Coming E → SuperView E → PassView E → EntryView E
entry_of e v u = record {
  before = v.length;
  process = e.process;
  mark = length u.trace;
  changes = e.changes;
  given = e.given;
  entry = e.entry;
}

-- The process was told of all entries, and then of this one. Its number is above the floor that the process had, which
-- then has reached it; of each own pair that it changed the process knows it settled. What the process did stays.
pub record IsAnnounced {E : Type 0} (e : Coming E) (v : SuperView E) (u u' : PassView E) : Type 0 where
  pub joined : u' ≡ joined_view (noted_view (announced_view e v)) u
  pub history : u'.history ≡ entry_of e v u ∷ v.history
  pub longer : IsFront u.history u'.history
  pub above : u.floor < v.length + 1
  pub reached : u'.floor ≡ v.length + 1
  pub own : (i : ℕ) (c : Change) → slice_get e.changes i ≡ Some c → c.process ≡ u.process
      → v.length + 1 ≤ all_told u'.start u'.told u'.process c.segno
