-- Append: an entry of the journal comes.
use Rattle.std.specs.Prelude.{◌≡◌, ℕ, ◌+◌, ◌<◌, ◌≤◌, IsTrue, ◌&&◌, ◌||◌, not, List, [], ◌∷◌, Some, slice_get}
use Rattle.mx_sdw.specs.Descriptors.{Descriptor}
use Rattle.mx_sdw.specs.Admissible.{IsAdmissible}
use Rattle.mx_core.specs.Notions.{IsProcess, IsPair, NothingPending}
use Rattle.mx_core.specs.Pages.{page_of, gives, covered_anew}
use Rattle.mx_core.specs.Put.{put}
use Rattle.mx_core.specs.World.{World}
use Rattle.mx_core.specs.declared.changes.Change.{Change}
use Rattle.mx_core.specs.declared.changes.Run.{Run}

-- a change of a pair of the table to a descriptor that it may have
pub record IsGoodChange (w : World) (change : Change) : Type 0 where
  pub pair : IsPair w change.process change.segno
  pub desc : IsAdmissible change.desc

-- the process, the numbers and the pages are in range, and no pair and no page is listed twice
pub record IsEntryInRange (w : World) (p : ℕ) (changes : List Change) (given : List Run) : Type 0 where
  pub process : IsProcess w p
  pub each : (i : ℕ) (a : Change) → slice_get changes i ≡ Some a → IsGoodChange w a
  pub pair_once : (i j : ℕ) (a b : Change) → slice_get changes i ≡ Some a → slice_get changes j ≡ Some b
      → a.process ≡ b.process → a.segno ≡ b.segno → i ≡ j
  pub pages : (i : ℕ) (a : Run) → slice_get given i ≡ Some a → a.page + a.pages ≤ 1024
  pub page_once : (i j page : ℕ) (a b : Run) → slice_get given i ≡ Some a → slice_get given j ≡ Some b
      → IsTrue (gives (a ∷ []) page) → IsTrue (gives (b ∷ []) page) → i ≡ j

-- where the page is given, it has only clean cells
abbrev pub IsClearAt : World → List Run → ℕ → Type 0
IsClearAt w given page = IsTrue (gives given page) → (cell : ℕ) → page_of cell ≡ page → IsTrue (w.clean cell)

-- where a descriptor put in covers the page, it is ready, or given in this entry
abbrev pub IsCoveredAt : World → List Change → List Run → ℕ → Type 0
IsCoveredAt w changes given page = IsTrue (covered_anew changes page) → IsTrue (gives given page || w.ready page)

pub record CanAppend (w : World) (p : ℕ) (changes : List Change) (given : List Run) : Type 0 where
  pub range : IsEntryInRange w p changes given
  pub limit : w.length < 262143
  pub rest : NothingPending w
  pub clear : (page : ℕ) → IsClearAt w given page
  pub covered : (page : ℕ) → IsCoveredAt w changes given page

-- the table with the changes put in
abbrev pub with_changes : List Change → (ℕ → ℕ → Descriptor) → ℕ → ℕ → Descriptor
with_changes [] table = table
with_changes (change ∷ rest) table =
    with_changes rest (put table change.process (put (table change.process) change.segno change.desc))

-- The history is longer by the entry, whose changes are pending; it is its process's, and its mark is the length that
-- the supervisor heard of. Its given pages are ready, and cells that are covered anew are clean no longer.
abbrev pub after_append : World → ℕ → List Change → List Run → World
after_append w p changes given = record w {
  length = w.length + 1;
  table = put w.table (w.length + 1) (with_changes changes (w.table w.length));
  entry = put w.entry (w.length + 1) (record { process = p; mark = w.reported p });
  given = put w.given (w.length + 1) (gives given);
  ready = λ page. gives given page || w.ready page;
  clean = λ cell. w.clean cell && not (covered_anew changes (page_of cell));
}
