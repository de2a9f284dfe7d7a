use Rattle.std.proofs.Common.{◌≡◌, ◌+◌, Some, rules}
use Rattle.std.specs.List.{slice_get}
use Rattle.mx_script.specs.SessionTexts.{fits_line}
use Rattle.mx_transcript.specs.Legal.{setting_of}
use Rattle.mx_parts.proofs.PartLaws.{step_judged}
use Rattle.mx_parts.proofs.ScriptLaws.{all_at, sayable_at}
use Rattle.mx_parts.proofs.parts.is_right_step.Goals as goal

pub returns-clause-judged : goal.returns-clause-judged
returns-clause-judged c =
    let setting = setting_of c.args.setting.now.session.now c.args.setting.now.journal.now c.args.setting.now.process in
    let at : slice_get c.args.script.now c.args.place ≡ Some c.in-Some.line.now = search rules in
    let number : c.args.printed.now.number ≡ c.args.process.now.first + c.args.place = search rules in
    step_judged setting c.args.process.now.control c.args.process.now.first c.args.script.now c.args.place c.in-Some.line.now
    (c.args.printed.now.number, c.args.printed.now.events.now, c.args.printed.now.ends) c.is_right_line.new.process.control
    c.is_right_line.result at number c.is_right_line.ensures.judged

pub is_right_line-requires-clause-line : goal.is_right_line-requires-clause-line
is_right_line-requires-clause-line c =
    let at : slice_get c.args.script.now c.args.place ≡ Some c.in-Some.line.now = search rules in
    sayable_at c.args.setting.now.session.now.version c.args.script.now c.args.place c.in-Some.line.now c.requires.sayable at

pub is_right_line-requires-clause-fits : goal.is_right_line-requires-clause-fits
is_right_line-requires-clause-fits c =
    let at : slice_get c.args.script.now c.args.place ≡ Some c.in-Some.line.now = search rules in
    all_at fits_line c.args.script.now c.args.place c.in-Some.line.now c.requires.fits at
