use Rattle.std.proofs.Common.{ap, sym, subst, arith}
use Rattle.atomic_table.specs.Table.{Splits}
use Rattle.mx_rule.specs.Notes.{noting_view, noted_view}
use Rattle.mx_rule.specs.Parts.{Count}
use Rattle.mx_rule.specs.Rule.{Holds}
use Rattle.mx_rule.specs.Seats.{super_of}
use Rattle.mx_rule.specs.Shown.{View, Super, Noted}
use Rattle.mx_rule.proofs.NoteSteps.{split_allowed}
use Rattle.mx_rule.proofs.Carries.{same_count}
use Rattle.mx_rule.proofs.PartLaws.{part_within}
use Rattle.mx_rule.proofs.office.SuperSeat.split.Goals as goal

pub split_seat-seat-requires : goal.split_seat-seat-requires
split_seat-seat-requires g c =
    let seat = c.args.self.now in
    let y = c.args.shared.now.key.layout in
    let v = super_of seat.seat.me.0 in
    let inside = part_within seat.layout Count tt in
    let wide = seat.wide in
    let words = same_count _ _ c.requires.fits in
    let length = seat.length_is in
    let answered = seat.answered_is in
    let rest = c.requires.rest in (
      c.requires.fits,
      omega arith,
      subst (λ (z : View g.row.E.Denot). Splits {S = g.row.E.Denot} (Holds y) seat.seat.id z (Super (noting_view v))
          (Noted (noted_view v)))
          (sym (ap (λ m. m.0) seat.posed))
          (split_allowed g.row.E.Denot y v seat.seat.id (omega arith)),
    )
