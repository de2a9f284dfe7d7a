use Rattle.std.proofs.Common.{sym, ◌∙◌, arith}
use Rattle.mx_rule.specs.Parts.{Answered}
use Rattle.mx_rule.specs.Seats.{super_of}
use Rattle.mx_rule.proofs.Carries.{same_count, office_writes}
use Rattle.mx_rule.proofs.OfficeSteps.{answer_allowed}
use Rattle.mx_rule.proofs.PartLaws.{part_within}
use Rattle.mx_rule.proofs.office.SuperSeat.answer.Goals as goal

pub store-requires : goal.store-requires
store-requires g c =
    let seat = c.args.self.now in
    let y = c.args.shared.now.key.layout in
    let v = super_of seat.seat.me.0 in
    let inside = part_within seat.layout Answered tt in
    let wide = seat.wide in
    let words = same_count _ _ c.requires.fits in
    let place = c.answered-word.ensures in (
      c.requires.fits,
      omega arith,
      office_writes g.row.E.Denot y v _ Answered _ _ _ _ (answer_allowed g.row.E.Denot y v c.requires.may) seat.posed
          (sym place) (seat.length_is ∙ sym c.from.ensures) _ _,
    )
