use Rattle.std.proofs.Common.{◌≤◌, vec_len, ◌≡◌, ◌+◌, drop}
use Rattle.mx_show.specs.Printing.{IsThrough}
use Rattle.mx_show.proofs.lines.print_processes.Given as goal

-- what is shown of the processes so far, and the sink has not failed
abbrev pub invariant-loop-i : goal.invariant-loop-i
invariant-loop-i g l = record {
  through : IsThrough l.session l.session.principals (drop 1 l.transcripts) l.i (drop l.i l.entrants)
      (drop (l.i + 1) l.transcripts) (g.K.Sink.out l.initial.sink) (g.K.Sink.out l.sink) l.initial.out.items l.out.items;
  same : g.K.Sink.faults l.sink ≡ g.K.Sink.faults l.initial.sink;
  held : vec_len l.out ≤ 32768;
}
