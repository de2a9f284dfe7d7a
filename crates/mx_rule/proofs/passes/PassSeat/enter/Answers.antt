use Rattle.std.proofs.Common.{ap, sym, ◌∙◌, arith}
use Rattle.mx_core.specs.Entering.{next_turn}
use Rattle.mx_rule.specs.Parts.{Flag, number_in}
use Rattle.mx_rule.specs.Seats.{pass_of}
use Rattle.mx_rule.proofs.Carries.{same_count, pass_writes}
use Rattle.mx_rule.proofs.Entries.{enter_allowed}
use Rattle.mx_rule.proofs.PartLaws.{part_within}
use Rattle.mx_rule.proofs.passes.PassSeat.enter.Goals as goal

pub store-requires : goal.store-requires
store-requires g c =
    let seat = c.args.self.now in
    let y = c.args.shared.now.key.layout in
    let v = pass_of seat.seat.me.0 in
    let inside = part_within seat.layout (Flag seat.process) (seat.low, seat.high) in
    let wide = seat.wide in
    let words = same_count _ _ c.requires.fits in
    let place = c.flag-word.ensures in (
      c.requires.fits,
      omega arith,
      pass_writes g.row.E.Denot y v _ (Flag v.process) _ _ _ _ (enter_allowed g.row.E.Denot y v c.requires.outside)
          seat.posed
          ((λ i. number_in (c.requires.layout i) (Flag (seat.process_is i))) ∙ sym place)
          (ap next_turn seat.turn_is ∙ sym c.turn_after-turn.ensures) _ _,
    )
