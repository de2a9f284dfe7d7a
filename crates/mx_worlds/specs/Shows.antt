-- What a running world shows of a world: all but the history of tables and entries, and which numbers are known
-- settled.
use Rattle.std.specs.Prelude.{◌≡◌, ℕ, Bool, List, length, Option, Some, None, slice_get}
use Rattle.mx_sdw.specs.Descriptors.{Descriptor}
use Rattle.mx_reads.specs.Held.{Held}
use Rattle.mx_core.specs.Invariant.{Good}
use Rattle.mx_core.specs.Lists.{Lists}
use Rattle.mx_core.specs.declared.words.DescriptorWord.{DescriptorWord}
use Rattle.mx_core.specs.World.{Process, Note, World}
use Rattle.mx_core.specs.declared.elements.Kept.{Kept}
use Rattle.mx_worlds.specs.declared.seats.Seat.{Seat}
use Rattle.mx_worlds.specs.declared.worlds.World.{World as Running}

-- what a world has of one process: itself, its words, its descriptors before and after the pending entry, its trace and
-- how long the supervisor knows that to be
pub record Columns : Type 0 where
  pub process : Process
  pub words : ℕ → DescriptorWord
  pub before : ℕ → Descriptor
  pub present : ℕ → Descriptor
  pub trace : List Kept
  pub reported : ℕ

abbrev pub columns : World → ℕ → Columns
columns w p = record {
  process = w.process p;
  words = w.word p;
  before = w.table w.answered p;
  present = w.table w.length p;
  trace = w.trace p;
  reported = w.reported p;
}

-- a process as a seat has it
abbrev pub seated : Seat → Process → Process
seated s o = record o {
  floor = s.floor;
  stage = s.stage;
  turn = s.turn;
  flag = s.flag;
  connect = s.connect;
  cleared = s.cleared;
  memory = s.memory;
  basis = s.basis;
  hold = s.hold;
  look = s.look;
  acknowledged = s.acknowledged;
}

pub record ShowsSeat (many : ℕ) (s : Seat) (c : Columns) : Type 0 where
  pub numbers : s.numbers ≡ many
  pub process : seated s c.process ≡ c.process
  pub words : Lists s.words.items c.words
  pub before : Lists s.before.items c.before
  pub present : Lists s.present.items c.present
  pub trace : c.trace ≡ s.trace.items
  pub reported : c.reported ≡ s.reported

-- each process has its seat, and process 0 one for the supervisor
abbrev pub ShowsSeats : List Seat → World → Type 0
ShowsSeats seats w = (p : ℕ) (s : Seat) → slice_get seats p ≡ Some s → ShowsSeat w.numbers s (columns w p)

pub record Counts : Type 0 where
  pub processes : ℕ
  pub numbers : ℕ
  pub start : ℕ
  pub answered : ℕ
  pub length : ℕ

abbrev pub counts_of : World → Counts
counts_of w = record {
  processes = w.processes;
  numbers = w.numbers;
  start = w.start;
  answered = w.answered;
  length = w.length;
}

abbrev pub counted : Running → Counts
counted m = record {
  processes = m.processes;
  numbers = m.numbers;
  start = m.start;
  answered = m.answered;
  length = m.count;
}

pub record ShowsMemory (held : List Held) (cleans readies : List Bool) (cell : ℕ → Held) (clean ready : ℕ → Bool)
    : Type 0 where
  pub cells : Lists held cell
  pub clean_cells : Lists cleans clean
  pub ready_pages : Lists readies ready

-- of a note its floor, until it is joined
abbrev pub floor_of : Option Note → Option ℕ
floor_of None = None
floor_of (Some note) = Some note.floor

pub record ShowsNotes (floors : List (Option ℕ)) (made : ℕ) (note : ℕ → Option Note) : Type 0 where
  pub many : made ≡ length floors
  pub notes : Lists floors (λ i. floor_of (note i))

pub record ShowsParts (counts : Counts) (seats : List Seat) (held : List Held) (cleans readies : List Bool)
    (floors : List (Option ℕ)) (w : World) : Type 0 where
  pub same : counts_of w ≡ counts
  pub shows : ShowsSeats seats w
  pub memory : ShowsMemory held cleans readies w.cell w.clean w.ready
  pub notes : ShowsNotes floors w.made w.note

-- a running world shows a world that meets the invariant
pub record Shows (m : Running) (w : World) : Type 0 where
  pub parts : ShowsParts (counted m) m.seats.items m.cells.items m.clean.items m.ready.items m.notes.items w
  pub good : Good w
