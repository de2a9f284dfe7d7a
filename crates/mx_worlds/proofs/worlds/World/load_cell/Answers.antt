use Rattle.std.proofs.Common.{◌≡◌, inl, inr, subst, refl, rules}
use Rattle.mx_reads.specs.Held.{Held}
use Rattle.mx_core.specs.Cells.{CanLoadCell}
use Rattle.mx_core.specs.Pages.{cell_at}
use Rattle.mx_worlds.specs.Seating.{read_columns}
use Rattle.mx_worlds.specs.Shows.{columns, ShowsSeat}
use Rattle.mx_core.proofs.CellLaws.{cell_low, load_cell_law}
use Rattle.mx_worlds.proofs.Seating.{seat_shown, read_parts, same_parts, value_is, process_is}
use Rattle.mx_worlds.proofs.worlds.World.load_cell.Goals as goal

pub returns-in_default : goal.returns-in_default
returns-in_default c w shows =
    let p = c.args.process in
    let m = c.args.self.now in
    let s = seat_shown m.seats.items w c.from-place.result p c.index.result.now (search rules) (search rules)
    c.index.ensures shows.parts.shows in (
      inr (
        process_is _ w p shows.parts.same (search rules) (search rules),
        inl (
          λ h. c.in_default.ensures w.numbers (columns w p) s h.on h.asked h.basis h.hold h.operation,
          refl,
        ),
      ),
      shows,
    )

pub returns-then-cell-len : goal.returns-then-cell-len
returns-then-cell-len c w shows =
    let p = c.args.process in
    let m = c.args.self.now in
    let s = seat_shown m.seats.items w c.from-place.result p c.index.result.now (search rules) (search rules)
    c.index.ensures shows.parts.shows in
    let b = c.in-Some.ensures w.numbers (columns w p) s in
    let low = cell_low w p c.in-Some.triple c.in-Some.asked shows.good b.0 b.1 in
    absurd (search rules)

pub returns-in-Ok : goal.returns-in-Ok
returns-in-Ok c w shows =
    let p = c.args.process in
    let m = c.args.self.now in
    let s = seat_shown m.seats.items w c.from-place.result p c.index.result.now (search rules) (search rules)
    c.index.ensures shows.parts.shows in
    let t = c.in-Some.triple in
    let a = c.in-Some.asked in
    let b = c.in-Some.ensures w.numbers (columns w p) s in
    let can : CanLoadCell w p = record {
      range = process_is _ w p shows.parts.same (search rules) (search rules);
      hold = record { on = t; asked = a; basis = b.0; hold = b.1; operation = b.2 };
    } in
    let e : c.index-2.result.now ≡ w.cell (cell_at t.desc a.word) =
    value_is m.cells.items w.cell (cell_at t.desc a.word) c.index-2.result.now shows.parts.memory.cells
    (search rules) (search rules) in (
      can,
      record {
        parts = read_parts _ _ _ _ _ _ w c.from-place.result p c.index_mut.result.now c.read.new.self (search rules)
            (search rules) c.index_mut.ensures.value shows.parts t a b.0 b.1 (λ h. subst (λ (x : Held).
            ShowsSeat w.numbers c.read.new.self (read_columns (columns w p) t a x)) e
            (c.in-Ok.ensures w.numbers (columns w p) h));
        good = load_cell_law w p shows.good can;
      },
    )

pub returns-in-Err : goal.returns-in-Err
returns-in-Err c w shows =
    let p = c.args.process in
    let m = c.args.self.now in
    let s = seat_shown m.seats.items w c.from-place.result p c.index.result.now (search rules) (search rules)
    c.index.ensures shows.parts.shows in
    let t = c.in-Some.triple in
    let a = c.in-Some.asked in
    let b = c.in-Some.ensures w.numbers (columns w p) s in
    let can : CanLoadCell w p = record {
      range = process_is _ w p shows.parts.same (search rules) (search rules);
      hold = record { on = t; asked = a; basis = b.0; hold = b.1; operation = b.2 };
    } in (
      (can, refl),
      record {
        parts = same_parts _ _ _ _ _ _ w c.from-place.result p c.index_mut.result.now c.read.new.self (search rules)
            (search rules) c.index_mut.ensures.value shows.parts (c.in-Err.ensures w.numbers (columns w p));
        good = shows.good;
      },
    )
