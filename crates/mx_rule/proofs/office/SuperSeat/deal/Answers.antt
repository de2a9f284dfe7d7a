use Rattle.std.proofs.Common.{ap, sym, subst, arith}
use Rattle.atomic_table.specs.Table.{Splits}
use Rattle.mx_rule.specs.Dealing.{dealing_view}
use Rattle.mx_rule.specs.Parts.{Count}
use Rattle.mx_rule.specs.Rule.{Holds}
use Rattle.mx_rule.specs.Seats.{super_of}
use Rattle.mx_rule.specs.Shown.{View, Super, Pass, fresh_view}
use Rattle.mx_rule.proofs.Openings.{deal_allowed}
use Rattle.mx_rule.proofs.Carries.{same_count}
use Rattle.mx_rule.proofs.PartLaws.{part_within}
use Rattle.mx_rule.proofs.office.SuperSeat.deal.Goals as goal

pub split_seat-seat-requires : goal.split_seat-seat-requires
split_seat-seat-requires g c =
    let seat = c.args.self.now in
    let y = c.args.shared.now.key.layout in
    let v = super_of seat.seat.me.0 in
    let inside = part_within seat.layout Count tt in
    let wide = seat.wide in
    let words = same_count _ _ c.requires.fits in
    let next = seat.next_is in
    let some = seat.some in
    let processes = seat.processes_is in
    let more = c.requires.more in (
      c.requires.fits,
      omega arith,
      subst (λ (z : View g.row.E.Denot). Splits {S = g.row.E.Denot} (Holds y) seat.seat.id z (Super (dealing_view v))
          (Pass (fresh_view v.start v.next)))
          (sym (ap (λ m. m.0) seat.posed))
          (deal_allowed g.row.E.Denot y v seat.seat.id (omega arith) (omega arith)),
    )
