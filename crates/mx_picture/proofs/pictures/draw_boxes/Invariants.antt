use Rattle.std.proofs.Common.{◌≡◌, drop}
use Rattle.mx_picture.specs.Boxes.{IsUpTo}
use Rattle.mx_picture.proofs.pictures.draw_boxes.Given as goal

-- the boxes that were drawn so far, and the sink has not failed
abbrev pub invariant-loop-reference : goal.invariant-loop-reference
invariant-loop-reference g l = record {
  up : IsUpTo l.layout l.placed (drop l.reference-index l.placed) (g.K.Sink.out l.initial.sink) (g.K.Sink.out l.sink)
      l.initial.out.items l.out.items;
  same : g.K.Sink.faults l.sink ≡ g.K.Sink.faults l.initial.sink;
}
