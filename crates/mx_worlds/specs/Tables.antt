-- Tables of descriptors that a world may open with: rows of descriptors, one for each process from 1 on.
use Rattle.std.specs.Prelude.{◌≡◌, ℕ, suc, zero, ◌<◌, IsTrue, List, [], ◌∷◌, length}
use Rattle.mx_sdw.specs.Descriptors.{Descriptor, unknown_desc}
use Rattle.mx_sdw.specs.Admissible.{IsAdmissible}
use Rattle.mx_core.specs.Opening.{CanOpen, opening_process}
use Rattle.mx_core.specs.Pages.{covers}
use Rattle.mx_worlds.specs.Shows.{Columns}
use Rattle.mx_core.specs.declared.words.DescriptorWord.TheVariants.{Valid}
use Rattle.mx_worlds.specs.declared.tables.DescList.{DescList}

-- beyond a row every number is unknown
abbrev pub desc_in : List Descriptor → ℕ → Descriptor
desc_in [] n = unknown_desc
desc_in (desc ∷ row) zero = desc
desc_in (desc ∷ row) (suc n) = desc_in row n

abbrev pub row_in : List (List Descriptor) → ℕ → List Descriptor
row_in [] i = []
row_in (row ∷ rows) zero = row
row_in (row ∷ rows) (suc i) = row_in rows i

-- process 0, the supervisor, has no descriptors
abbrev pub table_in : List (List Descriptor) → ℕ → ℕ → Descriptor
table_in rows zero n = unknown_desc
table_in rows (suc i) n = desc_in (row_in rows i) n

abbrev pub table_of : DescList → ℕ → ℕ → Descriptor
table_of list = table_in list.rows.items

-- the table is of these many processes, and a world may open with it
pub record MayOpen (processes start : ℕ) (list : DescList) : Type 0 where
  pub same : list.processes ≡ processes
  pub can : CanOpen processes list.numbers start (table_of list)

-- what a process with these descriptors has at the opening
abbrev pub opening_columns : ℕ → (ℕ → Descriptor) → Columns
opening_columns start descs = record {
  process = opening_process start;
  words = λ n. Valid start (descs n);
  before = descs;
  present = descs;
  trace = [];
  reported = 0;
}

-- a table may hold each descriptor of a row
abbrev pub AreAdmissible : List Descriptor → Type 0
AreAdmissible row = (n : ℕ) → IsAdmissible (desc_in row n)

-- a descriptor of the row covers a page
pub record HasCover (row : List Descriptor) (page : ℕ) : Type 0 where
  pub number : ℕ
  pub here : number < length row
  pub covered : IsTrue (covers (desc_in row number) page)
