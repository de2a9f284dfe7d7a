use Rattle.std.proofs.Common.{◌≡◌, ◌<◌, ℕ, List, Some, length, ap, sym, subst, ◌∙◌, rules}
use Rattle.std.specs.List.{slice_get}
use Rattle.std.proofs.lemmas.Option.{slice_get-get_or}
use Rattle.mx_reads.specs.Deeds.{CellUse}
use Rattle.mx_stores.specs.Cells.{IsAbsent}
use Rattle.mx_stores.specs.Ends.{AreEnds}
use Rattle.mx_stores.specs.Groups.{IsGroups}
use Rattle.mx_stores.specs.Sighted.{floor}
use Rattle.mx_stores.specs.Tables.{IsFrom, IsTable, number_of, order_of}
use Rattle.mx_stores.specs.declared.ends.Ends.{Ends}
use Rattle.mx_stores.specs.declared.groups.Groups.{Groups}
use Rattle.mx_stores.specs.declared.stores.Table.{Table}
use Rattle.mx_stores.proofs.Grouping.{stands_at}
use Rattle.mx_stores.proofs.Placing.{in_group}
use Rattle.mx_stores.proofs.Unstored.{not_among, not_grouped, other_none}
use Rattle.mx_stores.proofs.reader.other_choice.Goals as goal

pub returns-in_default-clause-place : goal.returns-in_default-clause-place
returns-in_default-clause-place c = λ done source rows below are w n.
    let cell : c.read.inside.cell ≡ c.args.read.now.cell = search rules in
    let in_groups : c.args.storer < length c.args.rows.now.groups.items = search rules in
    let in_tables : c.args.storer < length c.args.rows.now.tables.items = search rules in
    let own_is : slice_get c.args.rows.now.groups.items c.args.storer ≡ Some c.index.result.now =
    slice_get-get_or c.args.rows.now.groups.items c.args.storer c.index.result.now in_groups
    ∙ ap (λ (g : Groups). Some g) (sym c.index.ensures) in
    let t = stands_at c.args.rows.now.tables.items c.args.storer in_tables in
    let theirs : IsGroups t.0.stores.items c.index.result.now = rows.groups.each c.args.storer t.0 c.index.result.now t.1 own_is in
    let is : IsTable (done c.args.read.now.writer) t.0 =
    subst (λ (u : ℕ). IsTable (done u) t.0) w (rows.tables c.args.storer t.0 t.1) in
    let absent : IsAbsent c.index.result.now.cells.numbers.items (number_of c.args.read.now.cell) =
    subst (λ (x : CellUse). IsAbsent c.index.result.now.cells.numbers.items (number_of x)) cell
    (c.in_default.ensures.found theirs.rising) in
    other_none done (length c.args.rows.now.tables.items) source c.args.read.now
    (not_grouped (done c.args.read.now.writer) t.0 c.index.result.now c.args.read.now.cell is theirs absent)

pub returns-in_default-find-clause-place : goal.returns-in_default-find-clause-place
returns-in_default-find-clause-place c = λ done source rows below are w n.
    let cell : c.read.inside.cell ≡ c.args.read.now.cell = search rules in
    let absent : IsAbsent c.args.rows.now.cells.numbers.items (number_of c.args.read.now.cell) =
    subst (λ (m : ℕ). IsAbsent c.args.rows.now.cells.numbers.items m)
    (c.number.ensures.number ∙ ap (λ (x : CellUse). number_of x) cell) (c.in_default-find.ensures rows.cells.rising) in
    other_none done (length c.args.rows.now.tables.items) source c.args.read.now
    (not_among done c.args.rows.now.tables.items c.args.rows.now.cells.numbers.items c.args.read.now.cell rows.tables rows.cells
    below absent c.args.read.now.writer)

pub returns-in-Some-find-clause-place : goal.returns-in-Some-find-clause-place
returns-in-Some-find-clause-place c = λ done source rows below are w n.
    let cell : c.read.inside.cell ≡ c.args.read.now.cell = search rules in
    let in_groups : c.args.storer < length c.args.rows.now.groups.items = search rules in
    let in_tables : c.args.storer < length c.args.rows.now.tables.items = search rules in
    let own_is : slice_get c.args.rows.now.groups.items c.args.storer ≡ Some c.index.result.now =
    slice_get-get_or c.args.rows.now.groups.items c.args.storer c.index.result.now in_groups
    ∙ ap (λ (g : Groups). Some g) (sym c.index.ensures) in
    let table_is : slice_get c.args.rows.now.tables.items c.args.storer ≡ Some c.index-then-storer-len-2.result.now =
    slice_get-get_or c.args.rows.now.tables.items c.args.storer c.index-then-storer-len-2.result.now in_tables
    ∙ ap (λ (t : Table). Some t) (sym c.index-then-storer-len-2.ensures) in
    let theirs : IsGroups c.index-then-storer-len-2.result.now.stores.items c.index.result.now =
    rows.groups.each c.args.storer c.index-then-storer-len-2.result.now c.index.result.now table_is own_is in
    let group_is : slice_get c.index.result.now.cells.numbers.items c.in-Some.group ≡ Some (number_of c.args.read.now.cell) =
    c.in-Some.ensures.found theirs.rising ∙ ap (λ (x : CellUse). Some (number_of x)) cell in
    let fits : c.args.read.now.cell.since < 4294967296 =
    subst (λ (x : CellUse). x.since < 4294967296) cell c.find.ensures.fits in
    let index_is : slice_get c.args.rows.now.cells.numbers.items c.in-Some-find.index ≡ Some (number_of c.args.read.now.cell) =
    c.in-Some-find.ensures rows.cells.rising ∙ ap (λ (m : ℕ). Some m) c.number.ensures.number
    ∙ ap (λ (x : CellUse). Some (number_of x)) cell in
    let start = c.start-start.ensures done source c.args.rows.now.tables.items c.args.rows.now.groups.items
    c.args.rows.now.cells.numbers.items c.args.read.now.process c.args.read.now.place c.args.read.now.cell
    c.index-then-storer-len-2.result.now c.index.result.now are fits index_is n table_is own_is group_is in
    c.first_such.ensures.place done c.args.rows.now.tables.items
    (floor done source c.args.read.now.process c.args.read.now.cell c.args.read.now.writer c.args.read.now.place) rows.tables
    (subst (λ (es : List Ends). AreEnds done c.args.rows.now.tables.items es) (sym c.as_slice.ensures.value) rows.ends)
    table_is w fits
    (subst (λ (u : ℕ). IsFrom c.index-then-storer-len-2.result.now.stores.items
    (order_of c.args.read.now.cell (floor done source c.args.read.now.process c.args.read.now.cell u c.args.read.now.place))
    c.start-start.result) w start)

pub returns-in-Some-find-clause-at : goal.returns-in-Some-find-clause-at
returns-in-Some-find-clause-at c = λ done rows.
    let cell : c.read.inside.cell ≡ c.args.read.now.cell = search rules in
    let in_groups : c.args.storer < length c.args.rows.now.groups.items = search rules in
    let in_tables : c.args.storer < length c.args.rows.now.tables.items = search rules in
    let own_is : slice_get c.args.rows.now.groups.items c.args.storer ≡ Some c.index.result.now =
    slice_get-get_or c.args.rows.now.groups.items c.args.storer c.index.result.now in_groups
    ∙ ap (λ (g : Groups). Some g) (sym c.index.ensures) in
    let table_is : slice_get c.args.rows.now.tables.items c.args.storer ≡ Some c.index-then-storer-len-2.result.now =
    slice_get-get_or c.args.rows.now.tables.items c.args.storer c.index-then-storer-len-2.result.now in_tables
    ∙ ap (λ (t : Table). Some t) (sym c.index-then-storer-len-2.ensures) in
    let theirs : IsGroups c.index-then-storer-len-2.result.now.stores.items c.index.result.now =
    rows.groups.each c.args.storer c.index-then-storer-len-2.result.now c.index.result.now table_is own_is in
    let group_is : slice_get c.index.result.now.cells.numbers.items c.in-Some.group ≡ Some (number_of c.args.read.now.cell) =
    c.in-Some.ensures.found theirs.rising ∙ ap (λ (x : CellUse). Some (number_of x)) cell in
    in_group c.args.rows.now.tables.items c.args.rows.now.groups.items c.args.storer c.args.read.now.cell c.in-Some.group
    c.index-then-storer-len-2.result.now c.index.result.now c.first_such.result table_is own_is group_is
    c.first_such.ensures.group c.first_such.ensures.at
