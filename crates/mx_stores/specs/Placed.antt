-- Where the store stands that a deed's read stands for.
use Rattle.std.specs.Prelude.{◌≡◌, ℕ, Some, slice_get}
use Rattle.mx_reads.specs.Deeds.{Deed, Deeds, Stores}
use Rattle.mx_reads.specs.ReadRule.{Reading}
use Rattle.mx_stores.specs.Reads.{read_of}
use Rattle.mx_stores.specs.Rows.{IsInGroup}
use Rattle.mx_stores.specs.declared.rows.Rows.{Rows}

-- where the deed of process p at the place `here` reads another's store, that stands here in its table
abbrev pub IsPlaced : Rows → ℕ → ℕ → Deed → ℕ → ℕ → ℕ → Type 0
IsPlaced rows p here deed place group at = (read : Reading) → read_of p here deed ≡ Some read → (read.writer ≡ 0 → ⊥)
    → (read.writer ≡ p → ⊥) → IsInGroup rows.tables.items rows.groups.items read.writer read.cell place group at

-- a store of this process in the cell
pub record IsChosen (done : Deeds) (read : Reading) (place : ℕ) : Type 0 where
  pub value : ℕ
  pub point : ℕ
  pub stored : slice_get (done read.writer) place ≡ Some (Stores read.cell value point)

-- where the deed reads anybody's store, there is one at this place
abbrev pub HasChosen : Deeds → ℕ → ℕ → Deed → ℕ → Type 0
HasChosen done p here deed place = (read : Reading) → read_of p here deed ≡ Some read → (read.writer ≡ 0 → ⊥)
    → IsChosen done read place
