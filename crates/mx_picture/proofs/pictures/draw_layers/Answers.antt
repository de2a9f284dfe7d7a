use Rattle.std.proofs.Common.{rules}
use Rattle.mx_picture.proofs.PieceLaws.{draws_none, draws_more}
use Rattle.mx_picture.proofs.pictures.draw_layers.Goals as goal

pub loop-layer-init : goal.loop-layer-init
loop-layer-init g c = record { drawn = draws_none _ _; same = search rules }

pub loop-layer-preserved : goal.loop-layer-preserved
loop-layer-preserved g c = record {
  drawn = draws_more _ _ _ _ _ _ c.loop-layer.invariant.drawn c.in_ok-draw_layer.ensures.drawn;
  same = search rules;
}
