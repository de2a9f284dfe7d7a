use Rattle.std.proofs.Common.{ℕ, refl, sym, ◌∙◌, subst, arith}
use Rattle.mx_rule.specs.Clearing.{MayClear}
use Rattle.mx_rule.specs.Parts.{CellAt, number_in}
use Rattle.mx_rule.specs.Seats.{super_of}
use Rattle.mx_rule.specs.Shown.{office_of}
use Rattle.mx_rule.proofs.Carries.{same_count, office_writes}
use Rattle.mx_rule.proofs.LastSteps.{clear_allowed}
use Rattle.mx_rule.proofs.PartLaws.{part_within}
use Rattle.mx_rule.proofs.office.SuperSeat.clear_for.Goals as goal

pub store-requires : goal.store-requires
store-requires g c =
    let seat = c.args.self.now in
    let y = c.args.shared.now.key.layout in
    let cell = g.J.Aim.number in
    let a = c.requires.aim in
    let v = super_of seat.seat.me.0 in
    let may = c.requires.may in
    let inside = part_within seat.layout (CellAt c.args.cell) may.range in
    let wide = seat.wide in
    let words = same_count _ _ c.requires.fits in
    let place = c.cell-word.ensures in (
      c.requires.fits,
      omega arith,
      office_writes g.row.E.Denot y v _ (CellAt cell) _ _ _ _
          (clear_allowed g.row.E.Denot y v cell (subst (λ (k : ℕ). MayClear (office_of v) k) (sym a) may)) seat.posed
          ((λ i. number_in (c.requires.layout i) (CellAt (a i))) ∙ sym place) refl _ _,
    )
