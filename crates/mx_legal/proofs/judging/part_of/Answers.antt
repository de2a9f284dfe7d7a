use Rattle.std.proofs.Common.{sym, ◌∙◌}
use Rattle.std.proofs.lemmas.Result.{IfOk-weaker}
use Rattle.mx_legal.proofs.DeciderLaws.{found_part, none_found}
use Rattle.mx_legal.proofs.judging.part_of.Goals as goal

pub returns-in-None : goal.returns-in-None
returns-in-None c =
    c.new.ensures.items ∙ sym (none_found c.args.transcripts.now c.items.result.now c.args.p c.items.ensures c.in-None.ensures.lookup.3)

pub returns-in-Some : goal.returns-in-Some
returns-in-Some c =
    IfOk-weaker c.lines_of.result _ _
    (λ lines are. are ∙ found_part c.args.transcripts.now c.items.result.now c.args.p c.in-Some.transcript.now c.items.ensures
    c.in-Some.ensures.lookup.3.0 c.in-Some.ensures.lookup.1)
    c.lines_of.ensures
