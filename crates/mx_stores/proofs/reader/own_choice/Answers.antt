use Rattle.std.proofs.Common.{◌≡◌, ◌-◌, ◌<◌, ℕ, true, false, Some, None, length, ap, sym, subst, ◌∙◌, rules, arith}
use Rattle.std.specs.List.{slice_get}
use Rattle.std.proofs.lemmas.Option.{slice_get-get_or}
use Rattle.mx_reads.specs.Deeds.{CellUse}
use Rattle.mx_stores.specs.Since.{is_same}
use Rattle.mx_stores.specs.Tables.{before, IsFrom, IsTable, order_of}
use Rattle.mx_stores.specs.declared.stores.Table.{Table}
use Rattle.mx_stores.proofs.Choosing.{another_before, ends, last_before, none_before, own_fails, own_none, own_some}
use Rattle.mx_stores.proofs.Finds.{of}
use Rattle.mx_stores.proofs.reader.own_choice.Goals as goal

pub returns-in_default : goal.returns-in_default
returns-in_default c = λ done tables found below w.
    let within : c.args.storer < length c.args.tables.now = search rules in
    let at : slice_get c.args.tables.now c.args.storer ≡ Some c.index-tables-storer.result =
    slice_get-get_or c.args.tables.now c.args.storer c.index-tables-storer.result within
    ∙ ap (λ (t : Table). Some t) (sym c.index-tables-storer.is) in
    let theirs : IsTable (done c.args.storer) c.index-tables-storer.result = tables c.args.storer c.index-tables-storer.result at in
    let own : IsTable (done c.args.read.now.writer) c.index-tables-storer.result =
    subst (λ (u : ℕ). IsTable (done u) c.index-tables-storer.result) w theirs in
    let cell : c.read.inside.cell ≡ c.args.read.now.cell = search rules in
    let place : c.read.inside.place ≡ c.args.read.now.place = search rules in
    let fits : c.args.read.now.cell.since < 4294967296 =
    subst (λ (x : CellUse). x.since < 4294967296) cell c.order_of.ensures.fits in
    let small : c.args.read.now.place < 18446744073709551616 =
    subst (λ (n : ℕ). n < 18446744073709551616) place c.order_of.ensures.near in
    let order : c.order_of.result ≡ order_of c.args.read.now.cell c.args.read.now.place =
    c.order_of.ensures.order ∙ (λ i. order_of (cell i) (place i)) in
    let first : IsFrom c.index-tables-storer.result.stores.items (order_of c.args.read.now.cell c.args.read.now.place) c.first_from-end.result =
    subst (λ (n : ℕ). IsFrom c.index-tables-storer.result.stores.items n c.first_from-end.result) order
    (c.first_from-end.ensures.from (done c.args.storer) theirs) in
    let none : before c.index-tables-storer.result.stores.items c.first_from-end.result ≡ None = search rules in
    own_none done _ c.args.read.now (none_before done (length c.args.tables.now) c.args.read.now _ own.stores own.sorted fits c.first_from-end.result
    c.first_from-end.ensures.bound small first none)

pub returns-then-not-is : goal.returns-then-not-is
returns-then-not-is c = λ done tables found below w.
    let within : c.args.storer < length c.args.tables.now = search rules in
    let at : slice_get c.args.tables.now c.args.storer ≡ Some c.index-tables-storer.result =
    slice_get-get_or c.args.tables.now c.args.storer c.index-tables-storer.result within
    ∙ ap (λ (t : Table). Some t) (sym c.index-tables-storer.is) in
    let theirs : IsTable (done c.args.storer) c.index-tables-storer.result = tables c.args.storer c.index-tables-storer.result at in
    let own : IsTable (done c.args.read.now.writer) c.index-tables-storer.result =
    subst (λ (u : ℕ). IsTable (done u) c.index-tables-storer.result) w theirs in
    let cell : c.read.inside.cell ≡ c.args.read.now.cell = search rules in
    let place : c.read.inside.place ≡ c.args.read.now.place = search rules in
    let fits : c.args.read.now.cell.since < 4294967296 =
    subst (λ (x : CellUse). x.since < 4294967296) cell c.order_of.ensures.fits in
    let small : c.args.read.now.place < 18446744073709551616 =
    subst (λ (n : ℕ). n < 18446744073709551616) place c.order_of.ensures.near in
    let order : c.order_of.result ≡ order_of c.args.read.now.cell c.args.read.now.place =
    c.order_of.ensures.order ∙ (λ i. order_of (cell i) (place i)) in
    let first : IsFrom c.index-tables-storer.result.stores.items (order_of c.args.read.now.cell c.args.read.now.place) c.first_from-end.result =
    subst (λ (n : ℕ). IsFrom c.index-tables-storer.result.stores.items n c.first_from-end.result) order
    (c.first_from-end.ensures.from (done c.args.storer) theirs) in
    let here : before c.index-tables-storer.result.stores.items c.first_from-end.result ≡ Some c.in-Some.store.now = search rules in
    let other : is_same c.in-Some.store.now.cell c.read.inside.cell ≡ false = search rules in
    own_none done _ c.args.read.now (another_before done (length c.args.tables.now) c.args.read.now _ own.stores own.sorted fits c.first_from-end.result
    c.first_from-end.ensures.bound small first c.in-Some.store.now here
    (ap (λ (x : CellUse). is_same c.in-Some.store.now.cell x) (sym cell) ∙ other))

pub returns-then-is_such : goal.returns-then-is_such
returns-then-is_such c = λ done tables found below w.
    let within : c.args.storer < length c.args.tables.now = search rules in
    let at : slice_get c.args.tables.now c.args.storer ≡ Some c.index-tables-storer.result =
    slice_get-get_or c.args.tables.now c.args.storer c.index-tables-storer.result within
    ∙ ap (λ (t : Table). Some t) (sym c.index-tables-storer.is) in
    let theirs : IsTable (done c.args.storer) c.index-tables-storer.result = tables c.args.storer c.index-tables-storer.result at in
    let own : IsTable (done c.args.read.now.writer) c.index-tables-storer.result =
    subst (λ (u : ℕ). IsTable (done u) c.index-tables-storer.result) w theirs in
    let cell : c.read.inside.cell ≡ c.args.read.now.cell = search rules in
    let place : c.read.inside.place ≡ c.args.read.now.place = search rules in
    let fits : c.args.read.now.cell.since < 4294967296 =
    subst (λ (x : CellUse). x.since < 4294967296) cell c.order_of.ensures.fits in
    let small : c.args.read.now.place < 18446744073709551616 =
    subst (λ (n : ℕ). n < 18446744073709551616) place c.order_of.ensures.near in
    let order : c.order_of.result ≡ order_of c.args.read.now.cell c.args.read.now.place =
    c.order_of.ensures.order ∙ (λ i. order_of (cell i) (place i)) in
    let first : IsFrom c.index-tables-storer.result.stores.items (order_of c.args.read.now.cell c.args.read.now.place) c.first_from-end.result =
    subst (λ (n : ℕ). IsFrom c.index-tables-storer.result.stores.items n c.first_from-end.result) order
    (c.first_from-end.ensures.from (done c.args.storer) theirs) in
    let here : before c.index-tables-storer.result.stores.items c.first_from-end.result ≡ Some c.in-Some.store.now = search rules in
    let same : is_same c.in-Some.store.now.cell c.read.inside.cell ≡ true = search rules in
    let is : is_same c.in-Some.store.now.cell c.args.read.now.cell ≡ true =
    ap (λ (x : CellUse). is_same c.in-Some.store.now.cell x) (sym cell) ∙ same in
    let stands = ends done (length c.args.tables.now) c.args.read.now _ own.stores own.sorted fits c.first_from-end.result
    c.first_from-end.ensures.bound small first c.in-Some.store.now here in
    let place_before = stands.1.0 in
    let last : stands.0 ≡ c.first_from-end.result - 1 = omega arith in
    let there : slice_get c.index-tables-storer.result.stores.items (c.first_from-end.result - 1) ≡ Some c.in-Some.store.now =
    ap (λ (n : ℕ). slice_get c.index-tables-storer.result.stores.items n) (sym last) ∙ stands.1.1 in
    let such = sym (c.if-is_such.ensures done c.args.tables.now c.index-tables-storer.result found at there
    (of (done c.args.storer) _ theirs.stores theirs.sorted stands.0 c.in-Some.store.now stands.1.1) w) in
    own_some done _ c.args.read.now c.in-Some.store.now.place (last_before done (length c.args.tables.now) c.args.read.now _ own.stores own.sorted fits c.first_from-end.result
    c.first_from-end.ensures.bound small first c.in-Some.store.now here is) such

pub returns-else-is_such : goal.returns-else-is_such
returns-else-is_such c = λ done tables found below w.
    let within : c.args.storer < length c.args.tables.now = search rules in
    let at : slice_get c.args.tables.now c.args.storer ≡ Some c.index-tables-storer.result =
    slice_get-get_or c.args.tables.now c.args.storer c.index-tables-storer.result within
    ∙ ap (λ (t : Table). Some t) (sym c.index-tables-storer.is) in
    let theirs : IsTable (done c.args.storer) c.index-tables-storer.result = tables c.args.storer c.index-tables-storer.result at in
    let own : IsTable (done c.args.read.now.writer) c.index-tables-storer.result =
    subst (λ (u : ℕ). IsTable (done u) c.index-tables-storer.result) w theirs in
    let cell : c.read.inside.cell ≡ c.args.read.now.cell = search rules in
    let place : c.read.inside.place ≡ c.args.read.now.place = search rules in
    let fits : c.args.read.now.cell.since < 4294967296 =
    subst (λ (x : CellUse). x.since < 4294967296) cell c.order_of.ensures.fits in
    let small : c.args.read.now.place < 18446744073709551616 =
    subst (λ (n : ℕ). n < 18446744073709551616) place c.order_of.ensures.near in
    let order : c.order_of.result ≡ order_of c.args.read.now.cell c.args.read.now.place =
    c.order_of.ensures.order ∙ (λ i. order_of (cell i) (place i)) in
    let first : IsFrom c.index-tables-storer.result.stores.items (order_of c.args.read.now.cell c.args.read.now.place) c.first_from-end.result =
    subst (λ (n : ℕ). IsFrom c.index-tables-storer.result.stores.items n c.first_from-end.result) order
    (c.first_from-end.ensures.from (done c.args.storer) theirs) in
    let here : before c.index-tables-storer.result.stores.items c.first_from-end.result ≡ Some c.in-Some.store.now = search rules in
    let same : is_same c.in-Some.store.now.cell c.read.inside.cell ≡ true = search rules in
    let is : is_same c.in-Some.store.now.cell c.args.read.now.cell ≡ true =
    ap (λ (x : CellUse). is_same c.in-Some.store.now.cell x) (sym cell) ∙ same in
    let stands = ends done (length c.args.tables.now) c.args.read.now _ own.stores own.sorted fits c.first_from-end.result
    c.first_from-end.ensures.bound small first c.in-Some.store.now here in
    let place_before = stands.1.0 in
    let last : stands.0 ≡ c.first_from-end.result - 1 = omega arith in
    let there : slice_get c.index-tables-storer.result.stores.items (c.first_from-end.result - 1) ≡ Some c.in-Some.store.now =
    ap (λ (n : ℕ). slice_get c.index-tables-storer.result.stores.items n) (sym last) ∙ stands.1.1 in
    let such = sym (c.if-is_such.ensures done c.args.tables.now c.index-tables-storer.result found at there
    (of (done c.args.storer) _ theirs.stores theirs.sorted stands.0 c.in-Some.store.now stands.1.1) w) in
    own_fails done _ c.args.read.now c.in-Some.store.now.place (last_before done (length c.args.tables.now) c.args.read.now _ own.stores own.sorted fits c.first_from-end.result
    c.first_from-end.ensures.bound small first c.in-Some.store.now here is) such
