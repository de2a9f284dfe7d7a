use Rattle.std.proofs.Common.{◌≡◌, ◌≤◌, vec_len, ◌++◌}
use Rattle.mx_text.specs.Printing.{IsSent}
use Rattle.mx_text.specs.RunText.{steps_text}
use Rattle.mx_text.proofs.printing.print_steps.Given as goal

abbrev pub invariant-loop-number : goal.invariant-loop-number
invariant-loop-number g l = record {
  is_sent : IsSent (g.K.Sink.out l.initial.sink) (g.K.Sink.out l.sink) (l.buffer.items ++ steps_text l.number-iterator) (l.initial.buffer.items ++ steps_text l.transcript);
  same : g.K.Sink.faults l.sink ≡ g.K.Sink.faults l.initial.sink;
  held : vec_len l.buffer ≤ 32768;
}
