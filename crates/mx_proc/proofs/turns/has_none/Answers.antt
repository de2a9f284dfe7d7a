use Rattle.std.proofs.Common.{◌≡◌, ◌≤◌, true, false, Some, ap, sym, ◌∙◌, length, rules, arith}
use Rattle.std.proofs.lemmas.Option.{slice_get-get_or}
use Rattle.mx_proc.proofs.PlaceLaws.{get_within}
use Rattle.mx_proc.proofs.RowLaws.{no_line_left, none_below}
use Rattle.mx_proc.proofs.turns.has_none.Goals as goal

never : false ≡ true → ⊥
never e = cc

pub loop-process-init : goal.loop-process-init
loop-process-init g c = λ i v less at. absurd (omega (arith, less))

pub loop-process-preserved : goal.loop-process-preserved
loop-process-preserved g c =
    none_below g.B.Sitting.session c.args.row.now c.loop-process.process-index c.process-item.result
    (slice_get-get_or c.args.row.now c.loop-process.process-index c.process-item.result c.loop-process-test.true
    ∙ ap Some (sym c.process-item.is))
    (no_line_left g.B.Sitting.session c.process-item.result (λ has. never (sym c.if-has_line.false ∙ c.has_line.ensures.1 has)))
    c.loop-process.invariant

pub returns : goal.returns
returns g c = λ done place v at.
    let end : length c.args.row.now ≤ c.loop-process.process-index = search rules in
    let within = get_within c.args.row.now place v at in
    c.loop-process.invariant place v (omega (arith, end, within)) at
