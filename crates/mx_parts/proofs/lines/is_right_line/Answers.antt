use Rattle.std.proofs.Common.{rules}
use Rattle.mx_transcript.specs.Legal.{setting_of}
use Rattle.mx_parts.proofs.RestLaws.{wrong_line}
use Rattle.mx_parts.specs.Rests.{AreOfNoLine}
use Rattle.mx_parts.proofs.lines.is_right_line.Goals as goal

pub returns-in-Ok-None-clause-judged : goal.returns-in-Ok-None-clause-judged
returns-in-Ok-None-clause-judged c =
    let setting = setting_of c.args.setting.now.session.now c.args.setting.now.journal.now c.args.setting.now.process in
    let none : AreOfNoLine setting c.args.process.now.control c.args.line.now c.args.printed.now.events.now = search rules in
    wrong_line setting c.args.process.now.control c.args.line.now c.args.printed.now.events.now c.args.printed.now.ends none
