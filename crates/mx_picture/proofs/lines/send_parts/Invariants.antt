use Rattle.std.proofs.Common.{◌≡◌}
use Rattle.mx_picture.specs.Pages.{Gains}
use Rattle.mx_picture.proofs.lines.send_parts.Given as goal

-- the sink gained some text so far, and has not failed
abbrev pub invariant-loop-transcript : goal.invariant-loop-transcript
invariant-loop-transcript g l = record {
  sent : Gains (g.K.Sink.out l.initial.sink) (g.K.Sink.out l.sink);
  same : g.K.Sink.faults l.sink ≡ g.K.Sink.faults l.initial.sink;
}
