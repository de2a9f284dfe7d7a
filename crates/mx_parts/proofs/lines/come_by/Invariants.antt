use Rattle.std.proofs.Common.{drop}
use Rattle.mx_parts.specs.Rests.{IsRightBy}
use Rattle.mx_transcript.specs.Legal.{setting_of}
use Rattle.mx_parts.proofs.lines.come_by.Given as goal

abbrev pub invariant-loop-place : goal.invariant-loop-place
invariant-loop-place l =
    IsRightBy (setting_of l.setting.session.now l.setting.journal.now l.setting.process) l.control l.line l.events
    (drop l.place l.events) l.work
