use Rattle.std.proofs.Common.{◌≡◌}
use Rattle.mx_picture.specs.Pages.{Gains}
use Rattle.mx_picture.proofs.lines.send_part.Given as goal

-- the sink gained some text so far, and has not failed
abbrev pub invariant-loop-number : goal.invariant-loop-number
invariant-loop-number g l = record {
  sent : Gains (g.K.Sink.out l.initial.sink) (g.K.Sink.out l.sink);
  same : g.K.Sink.faults l.sink ≡ g.K.Sink.faults l.initial.sink;
}
