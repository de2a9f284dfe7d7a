use Rattle.std.proofs.Common.{◌≡◌}
use Rattle.mx_picture.specs.Drawings.{Draws}
use Rattle.mx_picture.proofs.pictures.draw_layers.Given as goal

-- what was drawn so far, and the sink has not failed
abbrev pub invariant-loop-layer : goal.invariant-loop-layer
invariant-loop-layer g l = record {
  drawn : Draws (g.K.Sink.out l.initial.sink) (g.K.Sink.out l.sink) l.initial.out.items l.out.items;
  same : g.K.Sink.faults l.sink ≡ g.K.Sink.faults l.initial.sink;
}
