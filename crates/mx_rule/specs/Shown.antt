-- What views show of a world.
use Rattle.std.specs.Prelude.{ℕ, ◌+◌, ◌&&◌, ◌||◌, not, max, Bool, true, false, List, [], ◌∷◌, None}
use Rattle.mx_sdw.specs.Descriptors.{Descriptor, unknown_desc}
use Rattle.mx_core.specs.Append.{with_changes}
use Rattle.mx_core.specs.Opening.{is_covered}
use Rattle.mx_core.specs.Pages.{page_of, gives, covered_anew}
use Rattle.mx_core.specs.Put.{put}
use Rattle.mx_core.specs.declared.words.DescriptorWord.{DescriptorWord}
use Rattle.mx_core.specs.declared.words.DescriptorWord.TheVariants.{Valid}
use Rattle.mx_core.specs.World.{Process, Note, Entry, World}
use Rattle.mx_core.specs.declared.elements.Kept.{Kept}
use Rattle.mx_core.specs.declared.words.Stage.TheVariants.{Outside}
use Rattle.mx_core.specs.declared.changes.Change.{Change}
pub use Rattle.mx_rule.specs.declared.views.Told.{Told}
pub use Rattle.mx_rule.specs.declared.views.WordAt.{WordAt}
pub use Rattle.mx_rule.specs.declared.views.NumberAt.{NumberAt}
pub use Rattle.mx_rule.specs.declared.views.EntryView.{EntryView}
pub use Rattle.mx_rule.specs.declared.views.Cleaning.{Cleaning}
pub use Rattle.mx_rule.specs.declared.views.Cleaning.TheVariants.{Cleared, Covered}
pub use Rattle.mx_rule.specs.declared.views.PassView.{PassView}
pub use Rattle.mx_rule.specs.declared.views.NoteView.{NoteView}
pub use Rattle.mx_rule.specs.declared.views.ReportView.{ReportView}
pub use Rattle.mx_rule.specs.declared.views.SuperView.{SuperView}
pub use Rattle.mx_rule.specs.declared.views.View.{View}
pub use Rattle.mx_rule.specs.declared.views.View.TheVariants.{Super, Pass, Note as Noted, Report, Spent}

-- Lists of assignments, the last one first, stand for functions.
abbrev pub told_of : ℕ → List Told → ℕ → ℕ → ℕ
told_of start [] = λ p n. start
told_of start (x ∷ xs) = put (told_of start xs) x.process (put (told_of start xs x.process) x.segno x.number)

abbrev pub note_of : {E : Type 0} → NoteView E → Note
note_of v = record { floor = v.floor; told = told_of v.start v.told }

abbrev pub all_told : {E : Type 0} → ℕ → List (NoteView E) → ℕ → ℕ → ℕ
all_told start [] = λ p n. start
all_told start (x ∷ xs) = λ p n. max (all_told start xs p n) ((note_of x).told p n)

abbrev pub words_of : ℕ → (ℕ → ℕ → Descriptor) → List WordAt → ℕ → ℕ → DescriptorWord
words_of start base [] = λ p n. Valid start (base p n)
words_of start base (x ∷ xs) = put (words_of start base xs) x.process
    (put (words_of start base xs x.process) x.segno x.word)

abbrev pub numbers_of : ℕ → List NumberAt → ℕ → ℕ
numbers_of d [] = λ p. d
numbers_of d (x ∷ xs) = put (numbers_of d xs) x.process x.number

-- how long a process's trace was reported to be
abbrev pub reported_of : List ReportView → ℕ → ℕ
reported_of [] = λ p. 0
reported_of (x ∷ xs) = put (reported_of xs) x.process (max (reported_of xs x.process) x.length)

abbrev pub marked : List ℕ → ℕ → Bool
marked [] = λ p. false
marked (x ∷ xs) = put (marked xs) x true

abbrev pub base_of : List Change → ℕ → ℕ → Descriptor
base_of changes = with_changes changes (λ p n. unknown_desc)

abbrev pub tables_of : {E : Type 0} → (ℕ → ℕ → Descriptor) → List (EntryView E) → ℕ → ℕ → ℕ → Descriptor
tables_of base [] = λ q. base
tables_of base (x ∷ xs) = put (tables_of base xs) (x.before + 1) (with_changes x.changes (tables_of base xs x.before))

abbrev pub entries_of : {E : Type 0} → List (EntryView E) → ℕ → Entry
entries_of [] = λ q. record { process = 0; mark = 0 }
entries_of (x ∷ xs) = put (entries_of xs) (x.before + 1) (record { process = x.process; mark = x.mark })

abbrev pub given_of : {E : Type 0} → List (EntryView E) → ℕ → ℕ → Bool
given_of [] = λ q page. false
given_of (x ∷ xs) = put (given_of xs) (x.before + 1) (gives x.given)

abbrev pub ready_of : List Cleaning → ℕ → Bool
ready_of [] = λ page. true
ready_of (Cleared c ∷ xs) = put (ready_of xs) (page_of c) false
ready_of (Covered changes given ∷ xs) = λ page. gives given page || ready_of xs page

abbrev pub clean_of : (ℕ → Bool) → List Cleaning → ℕ → Bool
clean_of first [] = first
clean_of first (Cleared c ∷ xs) = put (clean_of first xs) c true
clean_of first (Covered changes given ∷ xs) = λ c. clean_of first xs c && not (covered_anew changes (page_of c))

-- what the supervisor has of a world
pub record Office : Type 0 where
  pub processes : ℕ
  pub numbers : ℕ
  pub start : ℕ
  pub answered : ℕ
  pub length : ℕ
  pub table : ℕ → ℕ → ℕ → Descriptor
  pub entry : ℕ → Entry
  pub given : ℕ → ℕ → Bool
  pub word : ℕ → ℕ → DescriptorWord
  pub told : ℕ → ℕ → ℕ
  pub reported : ℕ → ℕ
  pub ready : ℕ → Bool
  pub clean : ℕ → Bool
  pub made : ℕ
  pub connect : ℕ → ℕ
  pub look : ℕ → ℕ
  pub acknowledged : ℕ → Bool

abbrev pub office : World → Office
office w = record {
  processes = w.processes;
  numbers = w.numbers;
  start = w.start;
  answered = w.answered;
  length = w.length;
  table = w.table;
  entry = w.entry;
  given = w.given;
  word = w.word;
  told = w.told;
  reported = w.reported;
  ready = w.ready;
  clean = w.clean;
  made = w.made;
  connect = λ p. (w.process p).connect;
  look = λ p. (w.process p).look;
  acknowledged = λ p. (w.process p).acknowledged;
}

abbrev pub first_clean : {E : Type 0} → SuperView E → ℕ → Bool
first_clean v = λ c. not (is_covered v.processes v.numbers (base_of v.base) (page_of c))

abbrev pub office_of : {E : Type 0} → SuperView E → Office
office_of v = record {
  processes = v.processes;
  numbers = v.numbers;
  start = v.start;
  answered = v.answered;
  length = v.length;
  table = tables_of (base_of v.base) v.history;
  entry = entries_of v.history;
  given = given_of v.history;
  word = words_of v.start (base_of v.base) v.words;
  told = told_of v.start v.told;
  reported = reported_of v.reported;
  ready = ready_of v.cleanings;
  clean = clean_of (first_clean v) v.cleanings;
  made = v.made;
  connect = numbers_of v.start v.connects;
  look = numbers_of 0 v.looks;
  acknowledged = marked v.acknowledged;
}

-- a pass's view with what the world has of its process
abbrev pub shown : {E : Type 0} → PassView E → Process → List Kept → PassView E
shown v o trace = record v {
  floor = o.floor;
  stage = o.stage;
  turn = o.turn;
  flag = o.flag;
  cleared = o.cleared;
  memory = o.memory;
  basis = o.basis;
  hold = o.hold;
  trace = trace;
}

-- a process that did nothing yet
abbrev pub fresh_view : {E : Type 0} → ℕ → ℕ → PassView E
fresh_view start p = record {
  process = p;
  start = start;
  floor = start;
  told = [];
  stage = Outside;
  turn = 0;
  flag = 0;
  cleared = start;
  memory = [];
  basis = None;
  hold = None;
  trace = [];
  history = [];
  earlier = [];
}
