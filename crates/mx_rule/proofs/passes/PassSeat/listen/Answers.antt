use Rattle.std.proofs.Common.{sym, arith}
use Rattle.mx_rule.specs.Fronts.{IsFront}
use Rattle.mx_rule.specs.Parts.{Count}
use Rattle.mx_rule.specs.Seats.{pass_of}
use Rattle.mx_rule.specs.Telling.{AreOwnMarks}
use Rattle.mx_rule.proofs.Carries.{same_count, pass_tells}
use Rattle.mx_rule.proofs.PartLaws.{part_within}
use Rattle.mx_rule.proofs.Tellings.{listen_allowed}
use Rattle.mx_rule.proofs.passes.PassSeat.listen.Goals as goal

pub load-requires : goal.load-requires
load-requires g c =
    let seat = c.args.self.now in
    let y = c.args.shared.now.key.layout in
    let v = pass_of seat.seat.me.0 in
    let inside = part_within seat.layout Count tt in
    let wide = seat.wide in
    let words = same_count _ _ c.requires.fits in
    let place = c.count-word.ensures in (
      c.requires.fits,
      omega arith,
      pass_tells g.row.E.Denot y v (λ n. v) (λ n. AreOwnMarks v × IsFront v.earlier v.history) Count _ _
          (listen_allowed g.row.E.Denot y v) seat.posed
          (sym place) _ _,
    )
