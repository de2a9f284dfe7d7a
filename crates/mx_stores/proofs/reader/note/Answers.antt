use Rattle.std.proofs.Common.{◌≡◌, ◌<◌, ℕ, Option, Some, None, refl, ap, sym, subst, ◌∙◌, rules}
use Rattle.std.specs.List.{slice_get}
use Rattle.mx_reads.specs.Deeds.{CellUse}
use Rattle.mx_stores.specs.Rows.{IsInGroup, IsStoreAt}
use Rattle.mx_stores.specs.Sighted.{Sighted, sighted_in}
use Rattle.mx_stores.specs.SightedTables.{IsSightedHere}
use Rattle.mx_stores.specs.Sights.{sighted_of}
use Rattle.mx_stores.specs.Since.{is_same}
use Rattle.mx_stores.specs.Tables.{number_of}
use Rattle.mx_stores.specs.declared.deeds.Sight.{Sight}
use Rattle.mx_stores.proofs.Noting.{none_more, sight_read, sight_stored, sighted_here}
use Rattle.mx_stores.proofs.Placing.{placed_from}
use Rattle.mx_stores.proofs.SightedLaws.{picks}
use Rattle.mx_stores.proofs.StoresFrom.{same_test}
use Rattle.mx_stores.proofs.Unstored.{is_among}
use Rattle.mx_stores.proofs.reader.note.Goals as goal

pub returns-in_default : goal.returns-in_default
returns-in_default c = λ done source rows below at e placed has are.
    let sighted = sighted_here done source c.args.p c.args.here c.args.chosen.now.place c.args.deed.now c.sight.result at e c.sight.ensures in
    none_more done source c.args.rows.now.tables.items c.args.rows.now.groups.items c.args.rows.now.cells.numbers.items c.args.p
    c.args.here c.args.sightings.now
    (λ cell. sighted cell ∙ ap (λ (o : Option Sight). sighted_of cell o) c.in_default.is) are

pub returns-in_default-find : goal.returns-in_default-find
returns-in_default-find c = λ done source rows below at e placed has are.
    let sighted = sighted_here done source c.args.p c.args.here c.args.chosen.now.place c.args.deed.now c.sight.result at e c.sight.ensures in
    let seen : IsSightedHere done source c.args.p c.args.here c.in-Some.sight.cell c.in-Some.sight.sighted =
    λ other. sighted other ∙ ap (λ (o : Option Sight). sighted_of other o) c.in-Some.is in
    let here : sighted_in c.in-Some.sight.cell c.args.p c.args.here c.args.chosen.now.place c.args.deed.now ≡ Some c.in-Some.sight.sighted =
    c.sight.ensures c.in-Some.sight.cell ∙ ap (λ (o : Option Sight). sighted_of c.in-Some.sight.cell o) c.in-Some.is
    ∙ picks (is_same c.in-Some.sight.cell c.in-Some.sight.cell) (Some c.in-Some.sight.sighted) None (same_test c.in-Some.sight.cell) in
    let cell : c.sight-in-Some.inside.0.0 ≡ c.in-Some.sight.cell = search rules in
    let stored = sight_stored done c.args.p c.args.here c.args.chosen.now.place c.args.deed.now c.in-Some.sight.cell
    c.in-Some.sight.sighted at has here in
    let among = is_among done c.args.rows.now.tables.items c.args.rows.now.cells.numbers.items c.in-Some.sight.sighted.storer
    c.in-Some.sight.sighted.store stored.value stored.point c.in-Some.sight.cell rows.tables rows.cells below stored.stored in
    absurd (c.in_default-find.ensures rows.cells.rising among.at
    (among.is ∙ ap (λ (x : CellUse). Some (number_of x)) (sym cell) ∙ ap (λ (m : ℕ). Some m) (sym c.number.ensures.number)))

pub returns-then-sight-p : goal.returns-then-sight-p
returns-then-sight-p c = λ done source rows below at e placed has are.
    let sighted = sighted_here done source c.args.p c.args.here c.args.chosen.now.place c.args.deed.now c.sight.result at e c.sight.ensures in
    let seen : IsSightedHere done source c.args.p c.args.here c.in-Some.sight.cell c.in-Some.sight.sighted =
    λ other. sighted other ∙ ap (λ (o : Option Sight). sighted_of other o) c.in-Some.is in
    let here : sighted_in c.in-Some.sight.cell c.args.p c.args.here c.args.chosen.now.place c.args.deed.now ≡ Some c.in-Some.sight.sighted =
    c.sight.ensures c.in-Some.sight.cell ∙ ap (λ (o : Option Sight). sighted_of c.in-Some.sight.cell o) c.in-Some.is
    ∙ picks (is_same c.in-Some.sight.cell c.in-Some.sight.cell) (Some c.in-Some.sight.sighted) None (same_test c.in-Some.sight.cell) in
    let cell : c.sight-in-Some.inside.0.0 ≡ c.in-Some.sight.cell = search rules in
    let fits : c.in-Some.sight.cell.since < 4294967296 =
    subst (λ (x : CellUse). x.since < 4294967296) cell c.number.ensures.fits in
    let index_is : slice_get c.args.rows.now.cells.numbers.items c.in-Some-find.index ≡ Some (number_of c.in-Some.sight.cell) =
    c.in-Some-find.ensures rows.cells.rising ∙ ap (λ (m : ℕ). Some m) c.number.ensures.number
    ∙ ap (λ (x : CellUse). Some (number_of x)) cell in
    let storer : c.sight-in-Some.inside.0.1.0.storer ≡ c.in-Some.sight.sighted.storer = search rules in
    let own : c.in-Some.sight.sighted.storer ≡ c.args.p = sym storer ∙ c.if-sight-p.true in
    c.sight_own.ensures done source c.args.rows.now.tables.items c.args.rows.now.groups.items c.args.rows.now.cells.numbers.items
    c.args.p c.args.here c.in-Some.sight.sighted.store c.in-Some.sight.cell rows.cells.rising are fits index_is refl
    (subst (λ (u : ℕ). IsSightedHere done source c.args.p c.args.here c.in-Some.sight.cell (record { storer = u; store = c.in-Some.sight.sighted.store }))
    own seen)

pub returns-else-sight-p : goal.returns-else-sight-p
returns-else-sight-p c = λ done source rows below at e placed has are.
    let sighted = sighted_here done source c.args.p c.args.here c.args.chosen.now.place c.args.deed.now c.sight.result at e c.sight.ensures in
    let seen : IsSightedHere done source c.args.p c.args.here c.in-Some.sight.cell c.in-Some.sight.sighted =
    λ other. sighted other ∙ ap (λ (o : Option Sight). sighted_of other o) c.in-Some.is in
    let here : sighted_in c.in-Some.sight.cell c.args.p c.args.here c.args.chosen.now.place c.args.deed.now ≡ Some c.in-Some.sight.sighted =
    c.sight.ensures c.in-Some.sight.cell ∙ ap (λ (o : Option Sight). sighted_of c.in-Some.sight.cell o) c.in-Some.is
    ∙ picks (is_same c.in-Some.sight.cell c.in-Some.sight.cell) (Some c.in-Some.sight.sighted) None (same_test c.in-Some.sight.cell) in
    let cell : c.sight-in-Some.inside.0.0 ≡ c.in-Some.sight.cell = search rules in
    let fits : c.in-Some.sight.cell.since < 4294967296 =
    subst (λ (x : CellUse). x.since < 4294967296) cell c.number.ensures.fits in
    let index_is : slice_get c.args.rows.now.cells.numbers.items c.in-Some-find.index ≡ Some (number_of c.in-Some.sight.cell) =
    c.in-Some-find.ensures rows.cells.rising ∙ ap (λ (m : ℕ). Some m) c.number.ensures.number
    ∙ ap (λ (x : CellUse). Some (number_of x)) cell in
    let storer : c.sight-in-Some.inside.0.1.0.storer ≡ c.in-Some.sight.sighted.storer = search rules in
    let n : c.in-Some.sight.sighted.storer ≡ c.args.p → ⊥ = λ z. c.if-sight-p.false (storer ∙ z) in
    let r = sight_read c.args.p c.args.here c.args.chosen.now.place c.args.deed.now c.in-Some.sight.cell c.in-Some.sight.sighted n here in
    let g : IsInGroup c.args.rows.now.tables.items c.args.rows.now.groups.items r.read.writer r.read.cell c.args.chosen.now.place c.args.chosen.now.group c.args.chosen.now.at =
    placed r.read r.is r.anybody (λ z. n (r.of_storer ∙ z)) in
    let w : r.read.writer ≡ c.sight-in-Some.inside.0.1.0.storer = sym r.of_storer ∙ sym storer in
    let store : IsStoreAt g.table.stores.items c.in-Some.sight.cell c.args.chosen.now.place c.args.chosen.now.at =
    subst (λ (x : CellUse). IsStoreAt g.table.stores.items x c.args.chosen.now.place c.args.chosen.now.at) r.of_cell g.store in
    let both = placed_from (done r.read.writer) g.table c.in-Some.sight.cell c.args.chosen.now.place c.args.chosen.now.at
    (rows.tables r.read.writer g.table g.table_is) store in
    c.sight-else-sight-p.ensures done source c.args.rows.now.tables.items c.args.rows.now.groups.items
    c.args.rows.now.cells.numbers.items c.args.p c.args.here c.args.chosen.now.place c.in-Some.sight.cell g.table g.own
    rows.cells.rising rows.groups are fits index_is c.if-sight-p.false
    (ap (λ (u : ℕ). slice_get c.args.rows.now.tables.items u) (sym w) ∙ g.table_is)
    (ap (λ (u : ℕ). slice_get c.args.rows.now.groups.items u) (sym w) ∙ g.own_is)
    (g.group_is ∙ ap (λ (x : CellUse). Some (number_of x)) r.of_cell) g.store.small both.0 both.1
    (subst (λ (s : Sighted). IsSightedHere done source c.args.p c.args.here c.in-Some.sight.cell s)
    (λ i. record { storer = sym storer i; store = r.of_store i }) seen)
