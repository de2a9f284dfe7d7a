use Rattle.std.proofs.Common.{sym, arith}
use Rattle.mx_rule.specs.Parts.{Count}
use Rattle.mx_rule.specs.Seats.{super_of}
use Rattle.mx_rule.specs.Telling.{IsTold}
use Rattle.mx_rule.proofs.Carries.{same_count, office_tells}
use Rattle.mx_rule.proofs.PartLaws.{part_within}
use Rattle.mx_rule.proofs.Tellings.{hear_allowed}
use Rattle.mx_rule.proofs.office.SuperSeat.hear.Goals as goal

pub load-requires : goal.load-requires
load-requires g c =
    let seat = c.args.self.now in
    let y = c.args.shared.now.key.layout in
    let v = super_of seat.seat.me.0 in
    let inside = part_within seat.layout Count tt in
    let wide = seat.wide in
    let words = same_count _ _ c.requires.fits in
    let place = c.count-word.ensures in (
      c.requires.fits,
      omega arith,
      office_tells g.row.E.Denot y v Count (IsTold v) _ _ (hear_allowed g.row.E.Denot y v) seat.posed (sym place) _ _,
    )
