use Rattle.mx_hier.specs.Walks.{entry}
use Rattle.mx_hier.specs.Who.{caller, subject}
use Rattle.mx_state.specs.Changing.{amended_at}
use Rattle.mx_state.proofs.GivenLaws.{amended_keeps}
use Rattle.mx_fresh.specs.declared.answered.Runs.{Runs}
use Rattle.mx_fresh.specs.Said.{with_no_runs}
use Rattle.mx_fresh.proofs.AnswerLaws.{found_then, not_found_then, quiet_answers, quiet_moves}
use Rattle.mx_fresh.proofs.serving.amend_along.Goals as goal

pub returns-in-Ok-clause-answer : goal.returns-in-Ok-clause-answer
returns-in-Ok-clause-answer c =
    let h = c.args.hierarchy.now in
    rw c.quiet.ensures (found_then (entry h (caller c.args.who.now) c.args.path.now c.args.follow) (λ uid. amended_at h (subject c.args.who.now) uid c.args.request.now)
    c.in-Ok.uid h c.amend.new.hierarchy (with_no_runs c.amend.result) c.in-Ok.ensures.answer
    (quiet_answers (amended_at h (subject c.args.who.now) c.in-Ok.uid c.args.request.now) h c.amend.new.hierarchy c.amend.result c.amend.ensures.answer))

pub returns-in-Ok-clause-runs : goal.returns-in-Ok-clause-runs
returns-in-Ok-clause-runs c =
    let h = c.args.hierarchy.now in
    rw c.quiet.ensures (quiet_moves (amended_at h (subject c.args.who.now) c.in-Ok.uid c.args.request.now) h c.amend.new.hierarchy c.amend.result c.amend.ensures.answer
    (amended_keeps h (subject c.args.who.now) c.in-Ok.uid c.args.request.now))

pub returns-in-Err-clause-answer : goal.returns-in-Err-clause-answer
returns-in-Err-clause-answer c =
    let h = c.args.hierarchy.now in
    not_found_then Runs (entry h (caller c.args.who.now) c.args.path.now c.args.follow) (λ uid. amended_at h (subject c.args.who.now) uid c.args.request.now)
    h c.in-Err.error c.in-Err.ensures.answer
