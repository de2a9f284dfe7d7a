use Rattle.std.proofs.Common.{◌≡◌, ◌≤◌, vec_len, ◌+◌, ◌++◌, drop}
use Rattle.mx_text.specs.Printing.{IsSent}
use Rattle.mx_text.specs.RunText.{entries_text}
use Rattle.mx_text.proofs.printing.print_entries.Given as goal

abbrev pub invariant-loop-i : goal.invariant-loop-i
invariant-loop-i g l = record {
  is_sent : IsSent (g.K.Sink.out l.initial.sink) (g.K.Sink.out l.sink) (l.buffer.items ++ entries_text (l.i + 1) (drop l.i l.entries)) (l.initial.buffer.items ++ entries_text 1 l.entries);
  same : g.K.Sink.faults l.sink ≡ g.K.Sink.faults l.initial.sink;
  held : vec_len l.buffer ≤ 32768;
}
