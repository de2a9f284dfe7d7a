use Rattle.std.proofs.Common.{◌≡◌, ◌≤◌, vec_len, ◌++◌, drop}
use Rattle.mx_text.specs.Printing.{IsSent}
use Rattle.mx_text.specs.RunText.{parts_text}
use Rattle.mx_text.proofs.printing.print_parts.Given as goal

abbrev pub invariant-loop-p : goal.invariant-loop-p
invariant-loop-p g l = record {
  is_sent : IsSent (g.K.Sink.out l.initial.sink) (g.K.Sink.out l.sink) (l.buffer.items ++ parts_text l.p (drop l.p l.parts)) (l.initial.buffer.items ++ parts_text 0 l.parts);
  same : g.K.Sink.faults l.sink ≡ g.K.Sink.faults l.initial.sink;
  held : vec_len l.buffer ≤ 32768;
}
