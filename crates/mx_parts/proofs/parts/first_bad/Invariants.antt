use Rattle.std.proofs.Common.{◌≡◌, ◌≤◌, length, drop}
use Rattle.mx_parts.specs.FirstBad.{AreBeside}
use Rattle.mx_parts.specs.Rests.{AreRightBy}
use Rattle.mx_transcript.specs.Access.{descriptor_of}
use Rattle.mx_transcript.specs.Legal.{setting_of}
use Rattle.mx_transcript.specs.Openings.{opening_control}
use Rattle.mx_transcript.specs.Scripts.{numbered}
use Rattle.mx_transcript.specs.Transcripts.{events_of}
use Rattle.mx_upcall.specs.Soundness.{IsPackableControl}
use Rattle.mx_parts.proofs.parts.first_bad.Given as goal

-- the steps before the place are kept, and the process has come to its registers and gates there
abbrev pub invariant-loop-number : goal.invariant-loop-number
invariant-loop-number l = record {
  right : AreRightBy (setting_of l.setting.session.now l.setting.journal.now l.setting.process)
      (opening_control l.setting.session.now l.setting.process) (numbered l.first l.script) l.transcript l.place
      l.denied (drop l.ahead (numbered l.first l.script)) l.number-iterator l.process.control;
  packable : IsPackableControl l.process.control;
  beside : AreBeside (descriptor_of l.setting.session.now l.setting.journal.now l.setting.process) (events_of l.number-iterator) l.left;
  first : l.process.first ≡ l.first;
  within : l.ahead ≤ length l.script;
  few : l.place ≤ l.ahead;
}
