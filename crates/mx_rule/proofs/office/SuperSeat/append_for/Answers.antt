use Rattle.std.proofs.Common.{ℕ, ◌+◌, List, ap, sym, ◌∙◌, subst, arith}
use Rattle.mx_core.specs.declared.changes.Change.{Change}
use Rattle.mx_core.specs.declared.changes.Run.{Run}
use Rattle.mx_rule.specs.Appending.{MayAppend}
use Rattle.mx_rule.specs.Parts.{Count}
use Rattle.mx_rule.specs.Seats.{super_of}
use Rattle.mx_rule.specs.Shown.{office_of}
use Rattle.mx_rule.proofs.Carries.{same_count, office_exchanges}
use Rattle.mx_rule.proofs.MoreSteps.{append_allowed}
use Rattle.mx_rule.proofs.PartLaws.{part_within}
use Rattle.mx_rule.proofs.office.SuperSeat.append_for.Goals as goal

pub compare_exchange_with-requires : goal.compare_exchange_with-requires
compare_exchange_with-requires g c =
    let seat = c.args.self.now in
    let y = c.args.shared.now.key.layout in
    let p = g.J.Entry.process in
    let changes = g.J.Entry.changes in
    let given = g.J.Entry.given in
    let a = c.requires.entry.0 in
    let b = c.requires.entry.1 in
    let e = c.requires.entry.2 in
    let v = super_of seat.seat.me.0 in
    let inside = part_within seat.layout Count tt in
    let wide = seat.wide in
    let words = same_count _ _ c.requires.fits in
    let place = c.count-word.ensures in (
      c.requires.fits,
      omega arith,
      office_exchanges g.row.E.Denot y v _ Count _ _ _ _ _ _
          (append_allowed g.row.E.Denot y v p changes given c.args.entry.now
          (subst (λ (z : ℕ × List Change × List Run). MayAppend (office_of v) z.0 z.1 z.2)
          (λ i. (sym a i, sym b i, sym e i)) c.requires.may)) seat.posed
          (sym place) (seat.length_is ∙ sym c.from.ensures)
          (ap (λ (k : ℕ). k + 1) seat.length_is ∙ sym c.from-2.ensures) _ _,
    )
