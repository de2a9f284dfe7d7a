use Rattle.std.proofs.Common.{◌≡◌, Some, refl, rules}
use Rattle.mx_parts.proofs.AnswerLaws.{call_answers, reply_linked, request_fits}
use Rattle.mx_transcript.specs.Legal.{setting_of}
use Rattle.mx_transcript.specs.Settings.{entry_at}
use Rattle.mx_parts.proofs.answers.entered.Goals as goal

pub is_asked_call-requires-clause-entry : goal.is_asked_call-requires-clause-entry
is_asked_call-requires-clause-entry c =
    let there : entry_at c.args.setting.now.journal.now c.args.number ≡ Some c.in-Some.entry.now = search rules in
    request_fits c.args.setting.now.journal.now c.args.number c.in-Some.entry.now c.requires.entries there

pub answered-requires-clause-linked : goal.answered-requires-clause-linked
answered-requires-clause-linked c =
    let there : entry_at c.args.setting.now.journal.now c.args.number ≡ Some c.in-Some.entry.now = search rules in
    reply_linked c.args.setting.now.journal.now c.args.number c.in-Some.entry.now c.requires.entries there

pub returns-then-branch : goal.returns-then-branch
returns-then-branch c =
    let there : entry_at c.args.setting.now.journal.now c.args.number ≡ Some c.in-Some.entry.now = search rules in
    let setting = setting_of c.args.setting.now.session.now c.args.setting.now.journal.now c.args.setting.now.process in
    call_answers setting c.args.control.now c.args.line.now c.args.work c.answered.result c.next.result c.args.number c.in-Some.entry.now
    there (search rules) c.next.ensures.is (search rules)
    (c.answered.ensures.taken setting c.args.number c.in-Some.entry.now there refl) c.answered.ensures.good
