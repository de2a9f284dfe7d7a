use Rattle.std.proofs.Common.{◌≡◌, ℕ, ◌<◌, Option, ap, sym, ◌∙◌, subst, arith, rules}
use Rattle.mx_sdw.specs.CellWords.{value_in}
use Rattle.mx_sdw.proofs.WordLaws.{value_back}
use Rattle.mx_core.specs.Pages.{cell_at}
use Rattle.mx_core.specs.declared.words.Asked.{Asked}
use Rattle.mx_core.specs.declared.words.Triple.{Triple}
use Rattle.mx_rule.specs.Allowing.{PassWrites}
use Rattle.mx_rule.specs.Codes.{cell_code}
use Rattle.mx_rule.specs.Holding.{held_at, stored_by, stored_held}
use Rattle.mx_rule.specs.Parts.{CellAt, number_in}
use Rattle.mx_rule.specs.Seats.{pass_of}
use Rattle.mx_rule.proofs.Carries.{same_count, pass_writes}
use Rattle.mx_rule.proofs.CellSteps.{store_cell_allowed}
use Rattle.mx_rule.proofs.Holdings.{same_some}
use Rattle.mx_rule.proofs.PartLaws.{part_within}
use Rattle.mx_rule.proofs.passes.PassSeat.store_cell.Goals as goal

pub store-requires : goal.store-requires
store-requires g c =
    let value = c.args.value in
    let code = c.number-code.result in
    let seat = c.args.self.now in
    let y = c.args.shared.now.key.layout in
    let v = pass_of seat.seat.me.0 in
    let held = c.requires.held in
    let on = held.on in
    let asked = held.asked in
    let cell = cell_at on.desc asked.word in
    let is : cell ≡ c.unwrap-cell.result = same_some cell c.unwrap-cell.result
    ((λ i. held_at (sym held.basis i) (sym held.hold i)) ∙ seat.cell_is ∙ search rules) in
    let near : cell < 65536 = search rules in
    let inside = part_within seat.layout (CellAt c.unwrap-cell.result) (search rules) in
    let wide = seat.wide in
    let words = same_count _ _ c.requires.fits in
    let code_is : cell_code (record { value = value; writer = v.process; stamp = v.floor }) ≡ code =
    (λ i. cell_code (record { value = value; writer = seat.process_is i; stamp = seat.floor_is i }))
    ∙ sym c.new.ensures ∙ sym c.number-code.ensures.number in
    let value_is : value_in code ≡ value = ap value_in (sym code_is)
    ∙ value_back value v.process v.floor (search rules) in
    let place = c.cell-word.ensures in (
      c.requires.fits,
      omega arith,
      pass_writes g.row.E.Denot y v (stored_held (value_in code) v) (CellAt cell) _ _ _ _
          (subst (λ (z : Option Triple × Option Asked × ℕ). PassWrites g.row.E.Denot y v (CellAt cell)
          (cell_code (record { value = value; writer = v.process; stamp = v.floor })) (stored_by z.0 z.1 z.2 v))
          (λ i. (sym held.basis i, sym held.hold i, sym value_is i))
          (store_cell_allowed g.row.E.Denot y v on asked value held.basis held.hold held.operation (search rules) near))
          seat.posed
          ((λ i. number_in (c.requires.layout i) (CellAt (is i))) ∙ sym place)
          code_is _ _,
    )
