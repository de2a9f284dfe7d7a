use Rattle.std.proofs.Common.{◌≡◌, ◌≤◌, length}
use Rattle.mx_parts.specs.FirstBad.{AreBeside}
use Rattle.mx_transcript.specs.Access.{descriptor_of}
use Rattle.mx_transcript.specs.Transcripts.{events_of}
use Rattle.mx_upcall.specs.Soundness.{IsPackableControl}
use Rattle.mx_parts.proofs.departures.depart_at.Given as goal

-- the descriptors that are left stand beside the events that are left
abbrev pub invariant-loop-number : goal.invariant-loop-number
invariant-loop-number l = record {
  packable : IsPackableControl l.process.control;
  beside : AreBeside (descriptor_of l.setting.session.now l.setting.journal.now l.setting.process) (events_of l.number-iterator) l.left;
  within : l.ahead ≤ length l.script;
  few : l.place ≤ l.ahead;
}
