use Rattle.std.proofs.Common.{◌≡◌, ◌<◌, Option, sym, ◌∙◌, subst, arith, rules}
use Rattle.mx_core.specs.Pages.{cell_at}
use Rattle.mx_core.specs.declared.words.Asked.{Asked}
use Rattle.mx_core.specs.declared.words.Triple.{Triple}
use Rattle.mx_rule.specs.Allowing.{PassTells}
use Rattle.mx_rule.specs.Codes.{IsCellCode}
use Rattle.mx_rule.specs.Holding.{held_at, read_by, read_held}
use Rattle.mx_rule.specs.Parts.{CellAt, number_in}
use Rattle.mx_rule.specs.Seats.{pass_of}
use Rattle.mx_rule.proofs.Carries.{same_count, pass_tells}
use Rattle.mx_rule.proofs.CellSteps.{load_cell_allowed}
use Rattle.mx_rule.proofs.Holdings.{same_some}
use Rattle.mx_rule.proofs.PartLaws.{part_within}
use Rattle.mx_rule.proofs.passes.PassSeat.load_cell.Goals as goal

pub load-found-requires : goal.load-found-requires
load-found-requires g c =
    let seat = c.args.self.now in
    let y = c.args.shared.now.key.layout in
    let v = pass_of seat.seat.me.0 in
    let held = c.requires.held in
    let on = held.on in
    let asked = held.asked in
    let cell = cell_at on.desc asked.word in
    let is : cell ≡ c.unwrap-cell.result = same_some cell c.unwrap-cell.result
    ((λ i. held_at (sym held.basis i) (sym held.hold i)) ∙ seat.cell_is ∙ search rules) in
    let near : cell < 65536 = search rules in
    let inside = part_within seat.layout (CellAt c.unwrap-cell.result) (search rules) in
    let wide = seat.wide in
    let words = same_count _ _ c.requires.fits in
    let place = c.cell-word.ensures in (
      c.requires.fits,
      omega arith,
      pass_tells g.row.E.Denot y v (λ n. read_held n v) IsCellCode (CellAt cell) _ _
          (subst (λ (z : Option Triple × Option Asked). PassTells g.row.E.Denot y v (CellAt cell)
          (λ n. read_by z.0 z.1 n v) IsCellCode) (λ i. (sym held.basis i, sym held.hold i))
          (load_cell_allowed g.row.E.Denot y v on asked held.basis held.hold held.operation near))
          seat.posed
          ((λ i. number_in (c.requires.layout i) (CellAt (is i))) ∙ sym place) _ _,
    )
