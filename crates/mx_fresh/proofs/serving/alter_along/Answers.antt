use Rattle.mx_hier.specs.Walks.{entry}
use Rattle.mx_hier.specs.Who.{caller, subject}
use Rattle.mx_state.specs.Changing.{altered_at}
use Rattle.mx_fresh.specs.declared.answered.Runs.{Runs}
use Rattle.mx_fresh.proofs.AnswerLaws.{found_then, not_found_then}
use Rattle.mx_fresh.proofs.serving.alter_along.Goals as goal

pub returns-in-Ok-clause-answer : goal.returns-in-Ok-clause-answer
returns-in-Ok-clause-answer c =
    let h = c.args.hierarchy.now in
    found_then (entry h (caller c.args.who.now) c.args.path.now c.args.follow) (λ uid. altered_at h (subject c.args.who.now) uid c.args.request.now)
    c.in-Ok.uid h c.alter.new.hierarchy c.alter.result c.in-Ok.ensures.answer c.alter.ensures.answer

pub returns-in-Err-clause-answer : goal.returns-in-Err-clause-answer
returns-in-Err-clause-answer c =
    let h = c.args.hierarchy.now in
    not_found_then Runs (entry h (caller c.args.who.now) c.args.path.now c.args.follow) (λ uid. altered_at h (subject c.args.who.now) uid c.args.request.now)
    h c.in-Err.error c.in-Err.ensures.answer
