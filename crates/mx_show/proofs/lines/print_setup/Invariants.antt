use Rattle.std.proofs.Common.{◌≤◌, vec_len, ◌≡◌, ◌+◌, drop, map}
use Rattle.mx_script.specs.declared.lines.Line.TheVariants.{Ask}
use Rattle.mx_transcript.specs.Scripts.{first_line, lines_of, numbered}
use Rattle.mx_show.specs.Printing.{HaveNumbers, IsUpTo}
use Rattle.mx_show.proofs.lines.print_setup.Given as goal

-- what is shown of the lines so far, those that are left have the numbers of the steps, and the sink has not failed
abbrev pub invariant-loop-request : goal.invariant-loop-request
invariant-loop-request g l = record {
  up : IsUpTo (first_line l.session 0) (lines_of l.session 0) l.transcript (first_line l.session 0 + l.request-index)
      (numbered (first_line l.session 0 + l.request-index) (map Ask (drop l.request-index l.setup))) l.steps
      (g.K.Sink.out l.initial.sink) (g.K.Sink.out l.sink) l.initial.out.items l.out.items;
  numbers : HaveNumbers (numbered (first_line l.session 0 + l.request-index) (map Ask (drop l.request-index l.setup))) l.steps;
  same : g.K.Sink.faults l.sink ≡ g.K.Sink.faults l.initial.sink;
  held : vec_len l.out ≤ 32768;
}
