-- Reads of cells that nobody stored in, and what a choice tells of the store.
use Rattle.std.proofs.Common.{◌≡◌, inl, inr, ℕ, ◌<◌, ◌==◌, ◌&&◌, nat_le, not, is_none, true, false, if◌then◌else◌, List, length, Option, Some, None, ap, sym, ◌∙◌, subst, arith}
use Rattle.std.specs.List.{slice_get}
use Rattle.std.proofs.lemmas.Bool.{cases_Bool, cases_lt}
use Rattle.std.proofs.lemmas.Option.{slice_get_within}
use Rattle.mx_reads.specs.Deeds.{CellUse, Deed, Deeds, Stores}
use Rattle.mx_reads.specs.ReadRule.{Reading}
use Rattle.mx_reads.specs.Sightings.{Source}
use Rattle.mx_stores.specs.Cells.{IsAbsent, IsPresent}
use Rattle.mx_stores.specs.Choices.{choice, is_deed, is_such, is_unwritten, last_below, other_choice, own_choice, stores_word}
use Rattle.mx_stores.specs.Deciding.{choice_for, choice_if, source_of}
use Rattle.mx_stores.specs.Groups.{AreCells, IsGroups}
use Rattle.mx_stores.specs.Known.{HasKnownStore}
use Rattle.mx_stores.specs.Least.{is_by}
use Rattle.mx_stores.specs.Placed.{HasChosen}
use Rattle.mx_stores.specs.Sighted.{floor, latest}
use Rattle.mx_stores.specs.Since.{first, stores_from}
use Rattle.mx_stores.specs.StoreLaws.{AreBelow}
use Rattle.mx_stores.specs.Tables.{AreTables, IsTable, number_of}
use Rattle.mx_stores.specs.Until.{until}
use Rattle.mx_stores.specs.declared.groups.Groups.{Groups}
use Rattle.mx_stores.specs.declared.stores.Table.{Table}
use Rattle.mx_stores.proofs.ChoiceLaws.{word_told}
use Rattle.mx_stores.proofs.Finds.{IsFound, find, same_number}
use Rattle.mx_stores.proofs.Grouping.{stands_at}
use Rattle.mx_stores.proofs.Searches.{first_none, first_told, kept_told}
use Rattle.mx_stores.proofs.SightedLaws.{equal_test, passes, picks, unequal_test}
use Rattle.mx_stores.proofs.StoresFrom.{both, of_both}
use Rattle.mx_stores.proofs.UntilLaws.{first_law}

such_stored : (done : Deeds) (count : ℕ) (read : Reading) (place : ℕ) → is_such done count read place ≡ true
    → slice_get (done read.writer) place ≡ Some (Stores read.cell read.value read.stamp)
such_stored done count read place t =
    word_told read.cell read.value read.stamp (slice_get (done read.writer) place)
    (both (is_deed (stores_word read.cell read.value read.stamp) (slice_get (done read.writer) place))
    (not (is_by (until done count read.writer place read.cell) read.point)) t).0

-- a choice is a store in the cell
pub choice_has : (done : Deeds) (count p here : ℕ) (chosen : List ℕ) (deed : Deed) (place : ℕ)
    → Some place ≡ choice_for done count p here chosen (Some deed) → HasChosen done p here deed place
choice_has done count p here chosen deed place e read is anybody =
    let made : choice done count (source_of chosen) read ≡ Some place =
    ap (λ (o : Option Reading). choice_if done count chosen o) (sym is) ∙ sym e in
    let somebody : (read.writer == 0) ≡ false = unequal_test read.writer 0 anybody in
    let rest = sym (passes (read.writer == 0) (if is_unwritten done count (source_of chosen) read then Some 0 else None)
    (if read.writer == read.process then own_choice done count read else other_choice done count (source_of chosen) read) somebody)
    ∙ made in
    let such : is_such done count read place ≡ true = elim (cases_Bool (read.writer == read.process)) [
      | inl own ↦ (kept_told (is_such done count read)
          (last_below (λ place. is_deed (stores_from read.cell 0) (slice_get (done read.writer) place)) read.place) place
          (sym (picks (read.writer == read.process) (own_choice done count read) (other_choice done count (source_of chosen) read) own)
          ∙ rest)).1
      | inr other ↦
          let f = first_told
          (λ place. nat_le (floor done (source_of chosen) read.process read.cell read.writer read.place) place && is_such done count read place)
          (length (done read.writer)) place
          (sym (passes (read.writer == read.process) (own_choice done count read) (other_choice done count (source_of chosen) read) other)
          ∙ rest) in
          (both (nat_le (floor done (source_of chosen) read.process read.cell read.writer read.place) place) (is_such done count read place) f.has).1
    ] in
    record { value = read.value; point = read.stamp; stored = such_stored done count read place such }

-- no store of the writer in the cell
pub other_none : (done : Deeds) (count : ℕ) (source : Source) (read : Reading)
    → ((i value point : ℕ) → slice_get (done read.writer) i ≡ Some (Stores read.cell value point) → ⊥)
    → None ≡ other_choice done count source read
other_none done count source read none = sym (first_none
    (λ place. nat_le (floor done source read.process read.cell read.writer read.place) place && is_such done count read place)
    (length (done read.writer)) (λ i l t. none i read.value read.stamp (such_stored done count read i
    (both (nat_le (floor done source read.process read.cell read.writer read.place) i) (is_such done count read i) t).1)))

pub not_grouped : (deeds : List Deed) (table : Table) (own : Groups) (cell : CellUse) → IsTable deeds table
    → IsGroups table.stores.items own → IsAbsent own.cells.numbers.items (number_of cell) → (i value point : ℕ)
    → slice_get deeds i ≡ Some (Stores cell value point) → ⊥
not_grouped deeds table own cell is are absent i value point e =
    let f : IsFound table.stores.items i cell value point = find deeds table.stores.items is.stores is.sorted i cell value point e in
    let p : IsPresent own.cells.numbers.items (number_of f.store.cell) = are.whole f.at f.store f.is in
    absent p.at (p.is ∙ ap (λ (c : CellUse). Some (number_of c)) f.same_cell_use)

-- a store is of a process that has a table
pub has_table : (done : Deeds) (tables : List Table) (u i : ℕ) (deed : Deed) → AreBelow (length tables) done
    → slice_get (done u) i ≡ Some deed → u < length tables
has_table done tables u i deed below e = elim (cases_lt u (length tables)) [
  | inl l ↦ l
  | inr l ↦
      let none = below u l in
      let within = slice_get_within (done u) i deed e in absurd (omega arith)
]

-- a cell that was stored in is among the cells
pub is_among : (done : Deeds) (tables : List Table) (numbers : List ℕ) (u i value point : ℕ) (cell : CellUse)
    → AreTables done tables → AreCells tables numbers → AreBelow (length tables) done
    → slice_get (done u) i ≡ Some (Stores cell value point) → IsPresent numbers (number_of cell)
is_among done tables numbers u i value point cell are cells below e =
    let t = stands_at tables u (has_table done tables u i (Stores cell value point) below e) in
    let is : IsTable (done u) t.0 = are u t.0 t.1 in
    let f : IsFound t.0.stores.items i cell value point =
    find (done u) t.0.stores.items is.stores is.sorted i cell value point e in
    subst (λ (c : CellUse). IsPresent numbers (number_of c)) f.same_cell_use (cells.whole u t.0 t.1 f.at f.store f.is)

pub not_among : (done : Deeds) (tables : List Table) (numbers : List ℕ) (cell : CellUse) → AreTables done tables
    → AreCells tables numbers → AreBelow (length tables) done → IsAbsent numbers (number_of cell)
    → (u i value point : ℕ) → slice_get (done u) i ≡ Some (Stores cell value point) → ⊥
not_among done tables numbers cell are cells below absent u i value point e =
    let p : IsPresent numbers (number_of cell) = is_among done tables numbers u i value point cell are cells below e in
    absent p.at p.is

-- no store in it is ever known
pub never_first : (done : Deeds) (tables : List Table) (numbers : List ℕ) (cell : CellUse) → AreTables done tables
    → AreCells tables numbers → AreBelow (length tables) done → IsAbsent numbers (number_of cell)
    → first done (length tables) cell ≡ None
never_first done tables numbers cell are cells below absent = same_number (first done (length tables) cell) None
    (λ q h.
    let s : HasKnownStore done cell q = (first_law (length tables) done below cell q).1 h in
    absurd (not_among done tables numbers cell are cells below absent s.storer s.place s.value s.point s.stored))
    (λ q h. absurd h)

pub unwritten_there : (done : Deeds) (count : ℕ) (source : Source) (read : Reading) → read.value ≡ 0 → read.stamp ≡ 0
    → latest done source read.process read.cell read.place ≡ None → first done count read.cell ≡ None
    → true ≡ is_unwritten done count source read
unwritten_there done count source read v s l f = sym (of_both (read.value == 0 && read.stamp == 0)
    (is_none (latest done source read.process read.cell read.place) && not (is_by (first done count read.cell) read.point))
    (of_both (read.value == 0) (read.stamp == 0) (equal_test read.value 0 v) (equal_test read.stamp 0 s))
    (of_both (is_none (latest done source read.process read.cell read.place)) (not (is_by (first done count read.cell) read.point))
    (ap (λ o. is_none o) l) (ap (λ o. not (is_by o read.point)) f)))
