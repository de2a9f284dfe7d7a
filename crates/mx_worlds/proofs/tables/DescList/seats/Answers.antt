use Rattle.std.proofs.Common.{◌≡◌, ℕ, suc, ◌+◌, List, length, ap, sym, ◌∙◌, subst, rules}
use Rattle.mx_sdw.specs.Descriptors.{Descriptor}
use Rattle.mx_worlds.specs.Marking.{AllShow}
use Rattle.mx_worlds.specs.Shows.{Columns, ShowsSeat}
use Rattle.mx_worlds.specs.Tables.{desc_in, table_of, opening_columns}
use Rattle.mx_worlds.specs.declared.seats.Seat.{Seat}
use Rattle.mx_worlds.proofs.TableLaws.{row_here, seat_added}
use Rattle.mx_worlds.proofs.tables.DescList.seats.Goals as goal

pub loop-row-preserved : goal.loop-row-preserved
loop-row-preserved c =
    let m = c.args.self.now in
    let seats = c.loop-row.seats in
    let s = c.in_ok-new-2.field-0 in
    let f : ℕ → Columns = λ p. opening_columns c.args.start (table_of m p) in
    let e = row_here m.rows.items c.deref-row-items.result.now c.loop-row.row-index c.row-item.result
    (search rules) (search rules) c.row-item.is in
    let count : suc c.loop-row.row-index ≡ length seats.items = search rules in (
      c.in_ok-push-2.ensures.len ∙ ap (λ (k : ℕ). k + 1) c.loop-row.invariant.0,
      subst (λ (l : List Seat). AllShow m.numbers l f) (sym {A = List Seat} c.in_ok-push-2.ensures.items)
          (seat_added m.numbers seats.items f s c.loop-row.invariant.1
          (subst (λ (k : ℕ). ShowsSeat m.numbers s (f k)) count
          (subst (λ (r : List Descriptor). ShowsSeat m.numbers s (opening_columns c.args.start (desc_in r))) (sym e)
          c.in_ok-new-2.ensures))),
    )
