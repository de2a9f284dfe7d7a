-- The deeds of a run: what the events of each process say that it did, with the cells that its references touched, each
-- in its use. `use_of` names a cell in its use, at a point where it is given one.
use Rattle.std.specs.Prelude.{ℕ, List, map, Option, Some, None, Result, Ok, Err}
use Rattle.mx_sdw.specs.Descriptors.{Descriptor}
use Rattle.mx_sdw.specs.Judging.{judgement}
use Rattle.mx_sdw.specs.declared.denials.Denial.{Denial}
use Rattle.mx_sdw.specs.declared.descriptors.Cell.{Cell}
use Rattle.mx_sdw.specs.declared.operations.Op.TheVariants as op
use Rattle.mx_core.specs.declared.elements.Element.{Element}
use Rattle.mx_core.specs.declared.elements.Event.TheVariants.{Seen, Missing}
use Rattle.mx_core.specs.declared.elements.Kind.{Kind}
use Rattle.mx_core.specs.declared.elements.Kind.TheVariants as kind
use Rattle.mx_core.specs.declared.elements.Outcome.{Outcome}
use Rattle.mx_core.specs.declared.elements.Outcome.TheVariants as outcome
use Rattle.mx_transcript.specs.declared.transcripts.Event2.{Event2}
use Rattle.mx_transcript.specs.declared.transcripts.Event2.TheVariants.{Core, Entry}
use Rattle.mx_reads.specs.Deeds.{CellUse, Deed, Deeds, Enters, Stores, Loads, Refers, Misses}

-- the cell that was granted, in its use
abbrev pub granted_cell : (ℕ → CellUse) → Result Cell Denial → Option CellUse
granted_cell use_of (Ok cell) = Some (use_of cell.0)
granted_cell use_of (Err denial) = None

-- the cell that a reference of this kind touches: where the judging rule grants it one
abbrev pub cell_by : (ℕ → CellUse) → Descriptor → Kind → ℕ → ℕ → Option CellUse
cell_by use_of descriptor kind.Read ring word = granted_cell use_of (judgement descriptor op.Read ring word)
cell_by use_of descriptor kind.Ind ring word = granted_cell use_of (judgement descriptor op.Indirect ring word)
cell_by use_of descriptor kind.Write ring word = granted_cell use_of (judgement descriptor op.Write ring word)
cell_by use_of descriptor kind.Fetch ring word = granted_cell use_of (judgement descriptor op.Fetch ring word)
cell_by use_of descriptor kind.Call ring word = None
cell_by use_of descriptor kind.Return ring word = None

-- of an element, in the use of its cell at its printed point
abbrev pub cell_of : (ℕ → ℕ → CellUse) → (Element → Descriptor) → Element → Option CellUse
cell_of use_of descriptor element =
    cell_by (λ cell. use_of cell element.point) (descriptor element) element.kind element.ring element.word

-- calls, returns and denied references touch no word
abbrev pub reference : Option CellUse → Outcome → ℕ → Deed
reference (Some cell) (outcome.Read value writer stamp) point = Loads cell value writer stamp point
reference (Some cell) (outcome.Written value) point = Stores cell value point
reference cell (outcome.Entered ring) point = Refers point
reference cell (outcome.Denied denial) point = Refers point
reference None came point = Refers point

-- an event as a deed, where elements have these cells
abbrev pub deed_by : (Element → Option CellUse) → Event2 → Deed
deed_by cell (Entry number) = Enters number
deed_by cell (Core (Seen element)) = reference (cell element) element.outcome element.point
deed_by cell (Core (Missing segno by)) = Misses segno by

-- what each process did, by the uses of cells, the descriptors of its elements, and its events
abbrev pub deeds_by : (ℕ → ℕ → CellUse) → (ℕ → Element → Descriptor) → (ℕ → List Event2) → Deeds
deeds_by use_of descriptor events p = map (deed_by (cell_of use_of (descriptor p))) (events p)
