use Rattle.std.proofs.Common.{◌≡◌}
use Rattle.mx_picture.specs.Pages.{Gains}
use Rattle.mx_picture.proofs.tables.send_entries.Given as goal

-- the sink gained some text so far, and has not failed
abbrev pub invariant-loop-entry : goal.invariant-loop-entry
invariant-loop-entry g l = record {
  sent : Gains (g.K.Sink.out l.initial.sink) (g.K.Sink.out l.sink);
  same : g.K.Sink.faults l.sink ≡ g.K.Sink.faults l.initial.sink;
}
