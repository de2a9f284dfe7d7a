-- Where the stores stand that reads stand for.
use Rattle.std.proofs.Common.{◌≡◌, ℕ, suc, List, Option, Some, None, IfSome, ap, sym, ◌∙◌, subst, arith}
use Rattle.std.specs.List.{slice_get}
use Rattle.mx_reads.specs.Deeds.{CellUse, Deed, Enters, Stores, Loads, Refers, Misses}
use Rattle.mx_reads.specs.ReadRule.{Reading}
use Rattle.mx_stores.specs.Placed.{IsPlaced}
use Rattle.mx_stores.specs.Reads.{read_of}
use Rattle.mx_stores.specs.Rows.{IsInGroup, IsStoreAt}
use Rattle.mx_stores.specs.Tables.{IsFrom, IsStoreOf, IsTable, number_of, order_of}
use Rattle.mx_stores.specs.declared.groups.Groups.{Groups}
use Rattle.mx_stores.specs.declared.reader.Chosen.{Chosen}
use Rattle.mx_stores.specs.declared.rows.Rows.{Rows}
use Rattle.mx_stores.specs.declared.stores.Table.{Table}
use Rattle.mx_stores.proofs.Finds.{of, stands_after, stands_from}
use Rattle.mx_stores.proofs.SightedLaws.{none_some, some_same}

pub in_group : (tables : List Table) (groups : List Groups) (storer : ℕ) (cell : CellUse) (group : ℕ) (table : Table) (own : Groups)
    (o : Option Chosen) → slice_get tables storer ≡ Some table → slice_get groups storer ≡ Some own
    → slice_get own.cells.numbers.items group ≡ Some (number_of cell) → IfSome o (λ c. c.group ≡ group)
    → IfSome o (λ c. IsStoreAt table.stores.items cell c.place c.at)
    → IfSome o (λ c. IsInGroup tables groups storer cell c.place c.group c.at)
in_group tables groups storer cell group table own None t g k same at = tt
in_group tables groups storer cell group table own (Some c) t g k same at = record {
  table = table;
  own = own;
  table_is = t;
  own_is = g;
  group_is = ap (λ (i : ℕ). slice_get own.cells.numbers.items i) same ∙ k;
  store = at;
}

read_process : (p here : ℕ) (deed : Deed) (read : Reading) → read_of p here deed ≡ Some read → read.process ≡ p
read_process p here (Enters number) read e = none_some read e
read_process p here (Stores cell value point) read e = none_some read e
read_process p here (Loads cell value writer stamp point) read e =
    ap (λ (r : Reading). r.process) (sym (some_same _ read e))
read_process p here (Refers point) read e = none_some read e
read_process p here (Misses segno by) read e = none_some read e

pub placed : (rows : Rows) (p here : ℕ) (deed : Deed) (read : Reading) (o : Option Chosen) → Some read ≡ read_of p here deed
    → ((read.writer ≡ 0 → ⊥) → (read.writer ≡ read.process → ⊥)
    → IfSome o (λ c. IsInGroup rows.tables.items rows.groups.items read.writer read.cell c.place c.group c.at))
    → IfSome o (λ c. IsPlaced rows p here deed c.place c.group c.at)
placed rows p here deed read None e f = tt
placed rows p here deed read (Some c) e f = λ other is anybody n.
    let same : read ≡ other = some_same read other (e ∙ is) in
    subst (λ (r : Reading). IsInGroup rows.tables.items rows.groups.items r.writer r.cell c.place c.group c.at) same
    (f (λ z. anybody (sym (ap (λ (r : Reading). r.writer) same) ∙ z))
    (λ z. n (sym (ap (λ (r : Reading). r.writer) same) ∙ z ∙ read_process p here deed read (sym e))))

-- a store stands first of those that are not before it
pub placed_from : (deeds : List Deed) (table : Table) (cell : CellUse) (place at : ℕ) → IsTable deeds table
    → IsStoreAt table.stores.items cell place at
    → IsFrom table.stores.items (order_of cell place) at × IsFrom table.stores.items (order_of cell (suc place)) (suc at)
placed_from deeds table cell place at is s =
    let own : IsStoreOf deeds s.store = of deeds table.stores.items is.stores is.sorted at s.store s.is in
    let order : s.store.order ≡ order_of cell place =
    own.ordered ∙ (λ i. order_of (s.same i) (s.there i)) in
    let next : suc s.store.order ≡ order_of cell (suc place) = omega arith in (
      subst (λ (n : ℕ). IsFrom table.stores.items n at) order
          (stands_from deeds table.stores.items is.stores is.sorted at s.store s.is),
      subst (λ (n : ℕ). IsFrom table.stores.items n (suc at)) next
          (stands_after deeds table.stores.items is.stores is.sorted at s.store s.is),
    )
