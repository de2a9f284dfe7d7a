use Rattle.std.proofs.Common.{ap, sym, ◌∙◌, Some, arith}
use Rattle.mx_core.specs.Judging.{at_once}
use Rattle.mx_sdw.specs.Admissible.{IsAdmissible}
use Rattle.mx_rule.specs.Loading.{judged_view}
use Rattle.mx_rule.specs.Parts.{Flag, number_in}
use Rattle.mx_rule.specs.Seats.{pass_of}
use Rattle.mx_rule.proofs.Carries.{same_count, pass_tells}
use Rattle.mx_rule.proofs.LastSteps.{recall_allowed}
use Rattle.mx_rule.proofs.PartLaws.{part_within}
use Rattle.mx_rule.proofs.passes.PassSeat.recall_on.Goals as goal

pub load-requires : goal.load-requires
load-requires g c =
    let seat = c.args.self.now in
    let y = c.args.shared.now.key.layout in
    let v = pass_of seat.seat.me.0 in
    let u = g.J.Asking.on in
    let a = g.J.Asking.asked in
    let is = c.requires.asking in
    let inside = part_within seat.layout (Flag seat.process) (seat.low, seat.high) in
    let wide = seat.wide in
    let words = same_count _ _ c.requires.fits in
    let place = c.flag-word.ensures in (
      c.requires.fits,
      omega arith,
      pass_tells g.row.E.Denot y v (λ m. judged_view (at_once u.desc a) u a v) (λ m. IsAdmissible u.desc)
          (Flag v.process) _ _
          (recall_allowed g.row.E.Denot y v c.args.on.now.segno a u c.requires.ready (c.requires.recall ∙ ap Some (sym is.0)))
          seat.posed
          ((λ i. number_in (c.requires.layout i) (Flag (seat.process_is i))) ∙ sym place) _ _,
    )
