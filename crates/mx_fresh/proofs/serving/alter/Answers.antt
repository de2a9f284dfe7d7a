use Rattle.mx_hier.specs.Who.{subject}
use Rattle.mx_state.specs.Changing.{altered_at}
use Rattle.mx_fresh.proofs.AnswerLaws.{freed_answers, freed_moves, quiet_answers}
use Rattle.mx_fresh.proofs.serving.alter.Goals as goal

pub returns-in-Delete-clause-answer : goal.returns-in-Delete-clause-answer
returns-in-Delete-clause-answer c =
    let h = c.args.hierarchy.now in
    rw c.freed.ensures (freed_answers (altered_at h (subject c.args.who.now) c.args.uid c.args.request.now) h c.delete.new.self c.delete.result
    (rw c.in-Delete.is c.delete.ensures.answer))

pub returns-in-Delete-clause-runs : goal.returns-in-Delete-clause-runs
returns-in-Delete-clause-runs c =
    rw c.freed.ensures (freed_moves c.args.hierarchy.now c.delete.new.self c.args.uid c.delete.result c.requires
    c.delete.ensures.run c.delete.ensures.is_run c.delete.ensures.pages)

pub returns-in-SetAcl-clause-answer : goal.returns-in-SetAcl-clause-answer
returns-in-SetAcl-clause-answer c =
    let h = c.args.hierarchy.now in
    rw c.quiet.ensures (quiet_answers (altered_at h (subject c.args.who.now) c.args.uid c.args.request.now) h c.set_acl.new.self c.set_acl.result
    (rw c.in-SetAcl.is c.set_acl.ensures.answer))

pub returns-in-DelAcl-clause-answer : goal.returns-in-DelAcl-clause-answer
returns-in-DelAcl-clause-answer c =
    let h = c.args.hierarchy.now in
    rw c.quiet-in-DelAcl.ensures (quiet_answers (altered_at h (subject c.args.who.now) c.args.uid c.args.request.now) h c.del_acl.new.self c.del_acl.result
    (rw c.in-DelAcl.is c.del_acl.ensures.answer))

pub returns-in-SetClass-clause-answer : goal.returns-in-SetClass-clause-answer
returns-in-SetClass-clause-answer c =
    let h = c.args.hierarchy.now in
    rw c.quiet-in-SetClass.ensures (quiet_answers (altered_at h (subject c.args.who.now) c.args.uid c.args.request.now) h c.set_class.new.self c.set_class.result
    (rw c.in-SetClass.is c.set_class.ensures.answer))
