-- LoadCell and StoreCell: the cell step of a granted reference.
use Rattle.std.specs.Prelude.{◌≡◌, ℕ, ◌^◌, ◌<◌, max, Bool, true, Option, Some, None}
use Rattle.mx_sdw.specs.Operations.{writes}
use Rattle.mx_sdw.specs.declared.operations.Op.{Op}
use Rattle.mx_reads.specs.Held.{Held}
use Rattle.mx_core.specs.Judging.{loads}
use Rattle.mx_core.specs.Loading.{with_event, element_of}
use Rattle.mx_core.specs.Notions.{IsProcess, with_process}
use Rattle.mx_core.specs.Pages.{cell_at}
use Rattle.mx_core.specs.Put.{put}
use Rattle.mx_core.specs.Words.{Triple, Asked}
use Rattle.mx_core.specs.World.{Judged, World}
use Rattle.mx_core.specs.declared.elements.Outcome.TheVariants as outcome

-- a reference of such an operation is held, on a basis
pub record IsHolding (w : World) (p : ℕ) (asks : Op → Bool) : Type 0 where
  pub on : Triple
  pub asked : Asked
  pub basis : (w.process p).basis ≡ Some on
  pub hold : (w.process p).hold ≡ Some asked
  pub operation : asks asked.op ≡ true

pub record CanLoadCell (w : World) (p : ℕ) : Type 0 where
  pub range : IsProcess w p
  pub hold : IsHolding w p loads

-- a stored value is a word of 36 bits
pub record CanStoreCell (w : World) (p value : ℕ) : Type 0 where
  pub range : IsProcess w p
  pub word : value < 2 ^ 36
  pub hold : IsHolding w p writes

-- the element has what the cell holds, and the floor rises to the stamp
abbrev pub cell_read : World → ℕ → Triple → Asked → Held → World
cell_read w p u a held =
    with_event (with_process w p (record (w.process p) { floor = max (w.process p).floor held.stamp; hold = None })) p
    (Judged (element_of u.segno a (w.process p).floor (outcome.Read held.value held.writer held.stamp)) a.op u.desc)

abbrev pub cell_loaded : World → ℕ → Option Triple → Option Asked → World
cell_loaded w p (Some u) (Some a) = cell_read w p u a (w.cell (cell_at u.desc a.word))
cell_loaded w p _ _ = w

abbrev pub after_load_cell : World → ℕ → World
after_load_cell w p = cell_loaded w p (w.process p).basis (w.process p).hold

-- the cell has the value, with the process and its floor
abbrev pub cell_written : World → ℕ → Triple → Asked → ℕ → World
cell_written w p u a value = record (with_event (with_process w p (record (w.process p) { hold = None })) p
    (Judged (element_of u.segno a (w.process p).floor (outcome.Written value)) a.op u.desc)) {
      cell = put w.cell (cell_at u.desc a.word) (record { value = value; writer = p; stamp = (w.process p).floor });
    }

abbrev pub cell_stored : World → ℕ → ℕ → Option Triple → Option Asked → World
cell_stored w p value (Some u) (Some a) = cell_written w p u a value
cell_stored w p value _ _ = w

abbrev pub after_store_cell : World → ℕ → ℕ → World
after_store_cell w p value = cell_stored w p value (w.process p).basis (w.process p).hold
