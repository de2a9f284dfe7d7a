use Rattle.std.proofs.Common.{sym, ◌∙◌, arith}
use Rattle.mx_rule.specs.Entering.{connected_view}
use Rattle.mx_rule.specs.Parts.{ConnectWord, number_in}
use Rattle.mx_rule.specs.Seats.{pass_of}
use Rattle.mx_rule.proofs.Carries.{same_count, pass_reads}
use Rattle.mx_rule.proofs.Entries.{load_connect_allowed}
use Rattle.mx_rule.proofs.PartLaws.{part_within}
use Rattle.mx_rule.proofs.passes.PassSeat.load_connect.Goals as goal

pub load-found-requires : goal.load-found-requires
load-found-requires g c =
    let seat = c.args.self.now in
    let y = c.args.shared.now.key.layout in
    let v = pass_of seat.seat.me.0 in
    let inside = part_within seat.layout (ConnectWord seat.process) (seat.low, seat.high) in
    let wide = seat.wide in
    let words = same_count _ _ c.requires.fits in
    let place = c.connect_word-word.ensures in (
      c.requires.fits,
      omega arith,
      pass_reads g.row.E.Denot y v (λ n. connected_view n v) (ConnectWord v.process) _ _
          (load_connect_allowed g.row.E.Denot y v c.requires.entering) seat.posed
          ((λ i. number_in (c.requires.layout i) (ConnectWord (seat.process_is i))) ∙ sym place) _ _,
    )
