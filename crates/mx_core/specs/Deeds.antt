-- What the read rule looks at in a world: what each process did, how much of it is known at a point, and what cells
-- hold.
use Rattle.std.specs.Prelude.{ℕ, suc, zero, ◌==◌, max, nat_le, Bool, ◌&&◌, ◌||◌, not, map}
use Rattle.mx_reads.specs.Deeds.{CellUse, Deed, Deeds, Stores, Loads, Refers, Misses}
use Rattle.mx_reads.specs.Held.{Held}
use Rattle.mx_reads.specs.ReadRule.{Fronts}
use Rattle.mx_core.specs.Pages.{page_of, cell_at, use_at, cell_use}
use Rattle.mx_core.specs.Put.{pick}
use Rattle.mx_core.specs.World.{Kept, Judged, Missed, Entry, World}
use Rattle.mx_core.specs.declared.elements.Outcome.{Outcome}
use Rattle.mx_core.specs.declared.elements.Outcome.TheVariants as outcome

-- an element of this outcome at a point, in a cell: only granted reads and writes do anything there
abbrev pub deed_by : CellUse → ℕ → Outcome → Deed
deed_by cell point (outcome.Read value writer stamp) = Loads cell value writer stamp point
deed_by cell point (outcome.Written value) = Stores cell value point
deed_by cell point (outcome.Entered ring) = Refers point
deed_by cell point (outcome.Denied denial) = Refers point

-- an element has the use of its cell at its point
abbrev pub deed_of : ℕ → (ℕ → ℕ → Bool) → Kept → Deed
deed_of start given (Judged e op d) = deed_by (cell_use start given (cell_at d e.word) e.point) e.point e.outcome
deed_of start given (Missed segno by) = Misses segno by

abbrev pub deeds : World → Deeds
deeds w p = map (deed_of w.start w.given) (w.trace p)

-- how many deeds of process u are known at a point: the greatest mark of an entry of u after the opening, up to the
-- point
abbrev pub front : ℕ → (ℕ → Entry) → Fronts
front start entry u zero = 0
front start entry u (suc q) =
    pick (nat_le start q && ((entry (suc q)).process == u)) (max (entry (suc q)).mark (front start entry u q))
    (front start entry u q)

-- a cell in its present use, that can be read or was stored in
abbrev pub present : World → CellUse → Bool
present w c = (c.since == use_at w.start w.given (page_of c.cell) w.length) &&
    (w.ready (page_of c.cell) || not ((w.cell c.cell).writer == 0))

abbrev pub holding : World → CellUse → Held
holding w c = w.cell c.cell
