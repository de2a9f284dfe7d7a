use Rattle.std.proofs.Common.{ℕ, sym, ◌∙◌, subst, arith}
use Rattle.mx_rule.specs.Acknowledging.{MayConnect}
use Rattle.mx_rule.specs.Parts.{ConnectWord, number_in}
use Rattle.mx_rule.specs.Seats.{super_of}
use Rattle.mx_rule.specs.Shown.{office_of}
use Rattle.mx_rule.proofs.Carries.{same_count, office_writes}
use Rattle.mx_rule.proofs.OfficeSteps.{connect_allowed}
use Rattle.mx_rule.proofs.PartLaws.{part_within}
use Rattle.mx_rule.proofs.office.SuperSeat.connect_for.Goals as goal

pub store-requires : goal.store-requires
store-requires g c =
    let seat = c.args.self.now in
    let y = c.args.shared.now.key.layout in
    let p = g.J.Aim.process in
    let a = c.requires.aim in
    let v = super_of seat.seat.me.0 in
    let may = c.requires.may in
    let low = may.low in
    let high = may.high in
    let processes = seat.processes_is in
    let inside = part_within seat.layout (ConnectWord c.args.process) (low, omega arith) in
    let wide = seat.wide in
    let words = same_count _ _ c.requires.fits in
    let place = c.connect_word-word.ensures in (
      c.requires.fits,
      omega arith,
      office_writes g.row.E.Denot y v _ (ConnectWord p) _ _ _ _
          (connect_allowed g.row.E.Denot y v p (subst (λ (q : ℕ). MayConnect (office_of v) q) (sym a) may)) seat.posed
          ((λ i. number_in (c.requires.layout i) (ConnectWord (a i))) ∙ sym place)
          (seat.length_is ∙ sym c.from.ensures) _ _,
    )
