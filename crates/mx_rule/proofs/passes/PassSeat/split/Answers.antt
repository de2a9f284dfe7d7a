use Rattle.std.proofs.Common.{ap, sym, subst, arith}
use Rattle.atomic_table.specs.Table.{Splits}
use Rattle.mx_rule.specs.Notes.{last_miss, reporting_view}
use Rattle.mx_rule.specs.Parts.{Count}
use Rattle.mx_rule.specs.Rule.{Holds}
use Rattle.mx_rule.specs.Seats.{pass_of}
use Rattle.mx_rule.specs.Shown.{View, Pass, Report}
use Rattle.mx_rule.proofs.NoteSteps.{makes_report_allowed, last_is_missed}
use Rattle.mx_rule.proofs.Carries.{same_count}
use Rattle.mx_rule.proofs.PartLaws.{part_within}
use Rattle.mx_rule.proofs.passes.PassSeat.split.Goals as goal

pub split_seat-seat-requires : goal.split_seat-seat-requires
split_seat-seat-requires g c =
    let seat = c.args.self.now in
    let y = c.args.shared.now.key.layout in
    let v = pass_of seat.seat.me.0 in
    let inside = part_within seat.layout Count tt in
    let wide = seat.wide in
    let words = same_count _ _ c.requires.fits in (
      c.requires.fits,
      omega arith,
      subst (λ (z : View g.row.E.Denot). Splits {S = g.row.E.Denot} (Holds y) seat.seat.id z (Pass v) (Report
          (reporting_view v)))
          (sym (ap (λ m. m.0) seat.posed))
          (makes_report_allowed g.row.E.Denot y v seat.seat.id (last_miss v.trace).0 (last_miss v.trace).1
          (last_is_missed v)),
    )
