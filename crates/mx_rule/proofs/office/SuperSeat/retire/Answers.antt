use Rattle.std.proofs.Common.{ap, sym, subst, arith}
use Rattle.atomic_table.specs.Table.{Joins}
use Rattle.mx_rule.specs.Dealing.{retired_view}
use Rattle.mx_rule.specs.Parts.{Count}
use Rattle.mx_rule.specs.Rule.{Holds}
use Rattle.mx_rule.specs.Seats.{super_of, pass_of}
use Rattle.mx_rule.specs.Shown.{View, Super, Spent}
use Rattle.mx_rule.proofs.Openings.{retire_allowed}
use Rattle.mx_rule.proofs.Carries.{same_count}
use Rattle.mx_rule.proofs.PartLaws.{part_within}
use Rattle.mx_rule.proofs.office.SuperSeat.retire.Goals as goal

pub join_seat-requires : goal.join_seat-requires
join_seat-requires g c =
    let seat = c.args.self.now in
    let other = c.args.pass in
    let y = c.args.shared.now.key.layout in
    let v = super_of seat.seat.me.0 in
    let u = pass_of other.seat.me.0 in
    let inside = part_within seat.layout Count tt in
    let wide = seat.wide in
    let words = same_count _ _ c.requires.fits in (
      c.requires.fits,
      c.requires.also,
      ap (λ m. m.1) other.posed,
      omega arith,
      subst (λ (z : View g.row.E.Denot × View g.row.E.Denot). Joins {S = g.row.E.Denot} (Holds y) seat.seat.id z.0
          other.seat.id z.1
          (Super (retired_view u v)) Spent)
          (λ i. (sym (ap (λ m. m.0) seat.posed) i, sym (ap (λ m. m.0) other.posed) i))
          (retire_allowed g.row.E.Denot y v u seat.seat.id other.seat.id),
    )
