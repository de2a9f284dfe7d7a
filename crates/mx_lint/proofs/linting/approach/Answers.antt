use Rattle.std.proofs.Common.{arith}
use Rattle.mx_lint.proofs.PlaceLaws.{rest_more, place_more}
use Rattle.mx_lint.proofs.linting.approach.Goals as goal

pub loop-line-preserved : goal.loop-line-preserved
loop-line-preserved c = record {
  rest = rest_more c.loop-line._line c.args.bytes.now _ _ c.loop-line.invariant.rest c.split_line.ensures.rest;
  place = place_more c.loop-line._line c.args.bytes.now _ _ _ _ _ c.loop-line.invariant.rest c.loop-line.invariant.place c.split_line.ensures.line
      c.form_of.ensures
      c.behind-place.ensures.place;
  begun = omega (arith, c.behind-place.ensures.more, c.loop-line.invariant.begun);
}
