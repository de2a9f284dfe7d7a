use Rattle.std.proofs.Common.{◌≡◌}
use Rattle.mx_show.specs.StoryPrinting.{PrintsSome}
use Rattle.mx_show.proofs.stories.print_turns.Given as goal

-- what is told so far, and the sink has not failed
abbrev pub invariant-loop-turn : goal.invariant-loop-turn
invariant-loop-turn g l = record {
  printed : PrintsSome (g.K.Sink.out l.initial.sink) (g.K.Sink.out l.sink) l.initial.out.items l.out.items;
  same : g.K.Sink.faults l.sink ≡ g.K.Sink.faults l.initial.sink;
}
