use Rattle.std.proofs.Common.{◌+◌, ◌*◌, inl, inr, ap, refl, rules}
use Rattle.mx_core.specs.Cells.{CanStoreCell}
use Rattle.mx_worlds.specs.Shows.{columns}
use Rattle.mx_core.specs.World.{Process}
use Rattle.mx_core.proofs.CellLaws.{cell_low, store_cell_law}
use Rattle.mx_worlds.proofs.Seating.{seat_shown, written_parts, same_parts, process_is}
use Rattle.mx_worlds.proofs.worlds.World.store_cell.Goals as goal

pub returns-in_default : goal.returns-in_default
returns-in_default c w shows =
    let p = c.args.process in
    let m = c.args.self.now in
    let s = seat_shown m.seats.items w c.from-place.result p c.index.result.now (search rules) (search rules)
    c.index.ensures shows.parts.shows in (
      inr (
        process_is _ w p shows.parts.same (search rules) (search rules),
        inr (
          search rules,
          inl (
            λ h. c.in_default.ensures w.numbers (columns w p) s h.on h.asked h.basis h.hold h.operation,
            refl,
          ),
        ),
      ),
      shows,
    )

pub returns-then-cell-len : goal.returns-then-cell-len
returns-then-cell-len c w shows =
    let p = c.args.process in
    let m = c.args.self.now in
    let s = seat_shown m.seats.items w c.from-place.result p c.index.result.now (search rules) (search rules)
    c.index.ensures shows.parts.shows in
    let b = c.in-Some.ensures w.numbers (columns w p) s in
    let low = cell_low w p c.in-Some.triple c.in-Some.asked shows.good b.0 b.1 in
    absurd (search rules)

pub returns-in-Ok : goal.returns-in-Ok
returns-in-Ok c w shows =
    let p = c.args.process in
    let m = c.args.self.now in
    let s = seat_shown m.seats.items w c.from-place.result p c.index.result.now (search rules) (search rules)
    c.index.ensures shows.parts.shows in
    let r = seat_shown m.seats.items w c.from-place.result p c.index-2.result.now (search rules) (search rules)
    c.index-2.ensures shows.parts.shows in
    let t = c.in-Some.triple in
    let a = c.in-Some.asked in
    let b = c.in-Some.ensures w.numbers (columns w p) s in
    let can : CanStoreCell w p c.args.value = record {
      range = process_is _ w p shows.parts.same (search rules) (search rules);
      word = search rules;
      hold = record { on = t; asked = a; basis = b.0; hold = b.1; operation = b.2 };
    } in (
      can,
      record {
        parts = written_parts _ _ _ _ _ _ w c.from-place.result p c.index_mut.result.now c.wrote.new.self (search rules)
            (search rules) c.index_mut.ensures.value shows.parts t a c.args.value
            (64 * c.from.result + c.from-2.result) c.index-2.result.now.floor (search rules)
            (ap (λ (o : Process). o.floor) r.process) b.0 b.1 (c.in-Ok.ensures w.numbers (columns w p));
        good = store_cell_law w p c.args.value shows.good can;
      },
    )

pub returns-in-Err : goal.returns-in-Err
returns-in-Err c w shows =
    let p = c.args.process in
    let m = c.args.self.now in
    let s = seat_shown m.seats.items w c.from-place.result p c.index.result.now (search rules) (search rules)
    c.index.ensures shows.parts.shows in
    let t = c.in-Some.triple in
    let a = c.in-Some.asked in
    let b = c.in-Some.ensures w.numbers (columns w p) s in
    let can : CanStoreCell w p c.args.value = record {
      range = process_is _ w p shows.parts.same (search rules) (search rules);
      word = search rules;
      hold = record { on = t; asked = a; basis = b.0; hold = b.1; operation = b.2 };
    } in (
      (can, refl),
      record {
        parts = same_parts _ _ _ _ _ _ w c.from-place.result p c.index_mut.result.now c.wrote.new.self (search rules)
            (search rules) c.index_mut.ensures.value shows.parts (c.in-Err.ensures w.numbers (columns w p));
        good = shows.good;
      },
    )
