use Rattle.std.proofs.Common.{ℕ, ap, sym, ◌∙◌, subst, arith}
use Rattle.mx_core.specs.declared.words.DescriptorWord.TheVariants.{Fault}
use Rattle.mx_rule.specs.Codes.{word_code}
use Rattle.mx_rule.specs.Parts.{DescriptorAt, number_in}
use Rattle.mx_rule.specs.Seats.{super_of}
use Rattle.mx_rule.specs.Shown.{office_of}
use Rattle.mx_rule.specs.Striking.{MayStrike}
use Rattle.mx_rule.proofs.Carries.{same_count, office_writes}
use Rattle.mx_rule.proofs.OfficeSteps.{strike_allowed}
use Rattle.mx_rule.proofs.PartLaws.{part_within}
use Rattle.mx_rule.proofs.office.SuperSeat.strike_for.Goals as goal

pub store-requires : goal.store-requires
store-requires g c =
    let seat = c.args.self.now in
    let y = c.args.shared.now.key.layout in
    let p = g.J.Aim.process in
    let n = g.J.Aim.segno in
    let a = c.requires.aim.0 in
    let b = c.requires.aim.1 in
    let v = super_of seat.seat.me.0 in
    let may = c.requires.may in
    let low = may.low in
    let high = may.high in
    let small = may.number in
    let processes = seat.processes_is in
    let numbers = seat.numbers_is in
    let inside = part_within seat.layout (DescriptorAt c.args.process c.args.segno) (low, omega arith, omega arith) in
    let wide = seat.wide in
    let words = same_count _ _ c.requires.fits in
    let place = c.descriptor-word.ensures in (
      c.requires.fits,
      omega arith,
      office_writes g.row.E.Denot y v _ (DescriptorAt p n) _ _ _ _
          (strike_allowed g.row.E.Denot y v p n
          (subst (λ (z : ℕ × ℕ). MayStrike (office_of v) z.0 z.1) (λ i. (sym a i, sym b i)) may)) seat.posed
          ((λ i. number_in (c.requires.layout i) (DescriptorAt (a i) (b i))) ∙ sym place)
          (ap (λ (k : ℕ). word_code (Fault k)) seat.length_is ∙ sym c.fault-code.ensures) _ _,
    )
