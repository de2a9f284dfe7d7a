use Rattle.std.proofs.Common.{◌≤◌, vec_len, ◌≡◌}
use Rattle.mx_show.specs.Printing.{HaveLines, IsUpTo, lines_by}
use Rattle.mx_show.proofs.lines.print_script.Given as goal

-- what is shown of the lines so far, each step that is left has a line, and the sink has not failed
abbrev pub invariant-loop-number : goal.invariant-loop-number
invariant-loop-number g l = record {
  up : IsUpTo l.first (lines_by l.first l.script l.transcript) l.transcript l.next
      (lines_by l.first l.script l.number-iterator) l.number-iterator (g.K.Sink.out l.initial.sink) (g.K.Sink.out l.sink)
      l.initial.out.items l.out.items;
  lines : HaveLines l.first l.script l.number-iterator;
  same : g.K.Sink.faults l.sink ≡ g.K.Sink.faults l.initial.sink;
  held : vec_len l.out ≤ 32768;
}
