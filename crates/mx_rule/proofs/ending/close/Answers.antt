use Rattle.std.proofs.Common.{ap, ◌∙◌}
use mathlib.Core.Option.{some}
use Rattle.mx_rule.specs.Seats.{super_of}
use Rattle.mx_rule.proofs.Endings.{end_is_right}
use Rattle.mx_rule.proofs.ending.close.Goals as goal

pub returns : goal.returns
returns g c =
    let seat = c.args.seat in
    let last = c.close_with.ensures.values.2 in
    end_is_right g.row.E.Denot c.args.words.shared.key.layout last.0 (super_of seat.seat.me.0) seat.seat.id last.1.0
    (last.1.1 ∙ ap (λ m. some m.0) seat.posed)
