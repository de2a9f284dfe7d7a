use Rattle.std.proofs.Common.{rules}
use Rattle.mx_picture.proofs.PieceLaws.{draws_none, draws_mark}
use Rattle.mx_picture.proofs.pictures.draw_layer.Goals as goal

pub loop-place-init : goal.loop-place-init
loop-place-init g c = record { drawn = draws_none _ _; same = search rules }

pub loop-place-preserved : goal.loop-place-preserved
loop-place-preserved g c = record {
  drawn = draws_mark _ _ _ _ _ _ _ _ c.loop-place.invariant.drawn c.in_ok-extend_from_slice.ensures.items
      c.in_ok-send_when_long.ensures.sent;
  same = search rules;
}
