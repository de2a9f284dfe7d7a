use Rattle.std.proofs.Common.{◌≡◌, ◌≤◌, ℕ, true, false, Some, length, ap, sym, subst, ◌∙◌, rules, arith}
use Rattle.std.specs.List.{slice_get}
use Rattle.std.proofs.lemmas.Option.{slice_get_past}
use Rattle.mx_reads.specs.Deeds.{CellUse}
use Rattle.mx_stores.specs.Choices.{is_such}
use Rattle.mx_stores.specs.Since.{is_same}
use Rattle.mx_stores.specs.Tables.{IsTable}
use Rattle.mx_stores.proofs.Choosing.{at_end, clear_next, found_here, past_cell}
use Rattle.mx_stores.proofs.Finds.{of}
use Rattle.mx_stores.proofs.StoresFrom.{same_told}
use Rattle.mx_stores.proofs.reader.first_such.Goals as goal

pub returns-then-not-is-clause-place : goal.returns-then-not-is-clause-place
returns-then-not-is-clause-place c = λ done all floor tables ends at w fits first.
    let own : IsTable (done c.args.read.now.writer) c.args.table.now =
    subst (λ (u : ℕ). IsTable (done u) c.args.table.now) w (tables c.args.storer c.args.table.now at) in
    let here : slice_get c.args.table.now.stores.items c.loop-here.here ≡ Some c.in-Some.store.now = search rules in
    let cell : c.read.inside.cell ≡ c.args.read.now.cell = search rules in
    let other : is_same c.in-Some.store.now.cell c.read.inside.cell ≡ false = search rules in
    past_cell done _ c.args.read.now _ own.stores own.sorted fits floor c.args.start first c.loop-here.here c.in-Some.store.now
    (c.loop-here.invariant.clear done all tables ends at w) c.loop-here.invariant.from here
    (ap (λ (x : CellUse). is_same c.in-Some.store.now.cell x) (sym cell) ∙ other)

pub returns-then-is_such-clause-place : goal.returns-then-is_such-clause-place
returns-then-is_such-clause-place c = λ done all floor tables ends at w fits first.
    let own : IsTable (done c.args.read.now.writer) c.args.table.now =
    subst (λ (u : ℕ). IsTable (done u) c.args.table.now) w (tables c.args.storer c.args.table.now at) in
    let theirs : IsTable (done c.args.storer) c.args.table.now = tables c.args.storer c.args.table.now at in
    let here : slice_get c.args.table.now.stores.items c.loop-here.here ≡ Some c.in-Some.store.now = search rules in
    let cell : c.read.inside.cell ≡ c.args.read.now.cell = search rules in
    let same : is_same c.in-Some.store.now.cell c.read.inside.cell ≡ true = search rules in
    let such : is_such done (length all) c.args.read.now c.in-Some.store.now.place ≡ true =
    sym (c.if-is_such.ensures done all c.args.table.now ends at here (of (done c.args.storer) _ theirs.stores theirs.sorted c.loop-here.here c.in-Some.store.now here) w) in
    found_here done _ c.args.read.now _ own.stores own.sorted fits floor c.args.start first c.loop-here.here c.in-Some.store.now
    (c.loop-here.invariant.clear done all tables ends at w) c.loop-here.invariant.from here
    (ap (λ (x : CellUse). is_same c.in-Some.store.now.cell x) (sym cell) ∙ same) such

pub loop-here-preserved : goal.loop-here-preserved
loop-here-preserved c =
    let from = c.loop-here.invariant.from in record {
      from = omega arith;
      clear = λ done all tables ends at w.
          let theirs : IsTable (done c.args.storer) c.args.table.now = tables c.args.storer c.args.table.now at in
          let here : slice_get c.args.table.now.stores.items c.loop-here.here ≡ Some c.in-Some.store.now = search rules in
          let fails : is_such done (length all) c.args.read.now c.in-Some.store.now.place ≡ false =
          sym (c.if-is_such.ensures done all c.args.table.now ends at here (of (done c.args.storer) _ theirs.stores theirs.sorted c.loop-here.here c.in-Some.store.now here) w) in
          clear_next done _ c.args.read.now _ c.args.start c.loop-here.here c.in-Some.store.now
          (c.loop-here.invariant.clear done all tables ends at w) here fails;
    }

pub returns-clause-place : goal.returns-clause-place
returns-clause-place c = λ done all floor tables ends at w fits first.
    let own : IsTable (done c.args.read.now.writer) c.args.table.now =
    subst (λ (u : ℕ). IsTable (done u) c.args.table.now) w (tables c.args.storer c.args.table.now at) in
    let end : length c.args.table.now.stores.items ≤ c.loop-here.here = search rules in
    at_end done _ c.args.read.now _ own.stores own.sorted fits floor c.args.start first c.loop-here.here
    (c.loop-here.invariant.clear done all tables ends at w) (slice_get_past c.args.table.now.stores.items c.loop-here.here end)

pub returns-then-is_such-clause-at : goal.returns-then-is_such-clause-at
returns-then-is_such-clause-at c =
    let here : slice_get c.args.table.now.stores.items c.loop-here.here ≡ Some c.in-Some.store.now = search rules in
    let cell : c.read.inside.cell ≡ c.args.read.now.cell = search rules in
    let same : is_same c.in-Some.store.now.cell c.read.inside.cell ≡ true = search rules in
    record {
      store = c.in-Some.store.now;
      is = here;
      there = search rules;
      same = same_told c.in-Some.store.now.cell c.read.inside.cell same ∙ cell;
      small = search rules;
    }
