use Rattle.std.proofs.Common.{◌∙◌, Some, ap, arith, rules}
use Rattle.std.proofs.lemmas.Option.{slice_get-get_or}
use Rattle.mx_proc.proofs.RowLaws.{one_goes_on}
use Rattle.mx_proc.proofs.turns.step_at.Goals as goal

pub returns-clause-place : goal.returns-clause-place
returns-clause-place g c =
    let row = c.args.row.now.items in
    let old = c.index_mut.result.now in
    let under = c.requires.place in
    let many = c.args.row.now.ok.0 in
    one_goes_on g.B.Attending.accounts row c.args.place old c.step.new.process
    (slice_get-get_or row c.args.place old (omega (arith, under, many)) ∙ ap Some (search rules)) c.step.ensures c.requires.row
