use Rattle.std.proofs.Common.{◌≡◌, Some, length, refl, ◌∙◌, arith}
use Rattle.std.specs.List.{slice_get}
use Rattle.std.proofs.lemmas.Bool.{iff_false}
use Rattle.std.proofs.lemmas.Option.{slice_get_read}
use Rattle.mx_points.specs.Seen.{seen}
use Rattle.mx_points.proofs.PointLaws.{first_wrong_point, one_point_more}
use Rattle.mx_points.proofs.SeenLaws.{greatest_at}
use Rattle.mx_points.proofs.points.first_bad_point.Goals as goal

pub returns-then-not-has_right_point : goal.returns-then-not-has_right_point
returns-then-not-has_right_point c =
    let at : slice_get c.args.deeds.now c.loop-place.place ≡ Some c.index-deeds-place.result =
    slice_get_read c.args.deeds.now (length c.args.deeds.now) c.loop-place.place c.index-deeds-place.result refl c.loop-place-test.true c.index-deeds-place.is in
    first_wrong_point c.args.setup c.args.entries c.args.deeds.now c.loop-place.place c.loop-place.floor c.loop-place.next c.index-deeds-place.result
    at c.loop-place.invariant.floor c.loop-place.invariant.next c.loop-place.invariant.good
    (iff_false c.has_right_point.ensures c.if-not-has_right_point.true)

pub loop-place-preserved : goal.loop-place-preserved
loop-place-preserved c =
    let at : slice_get c.args.deeds.now c.loop-place.place ≡ Some c.index-deeds-place.result =
    slice_get_read c.args.deeds.now (length c.args.deeds.now) c.loop-place.place c.index-deeds-place.result refl c.loop-place-test.true c.index-deeds-place.is in
    record {
      floor = c.max-floor.ensures
          ∙ greatest_at seen c.args.setup c.args.deeds.now c.loop-place.place c.index-deeds-place.result c.loop-place.floor c.seen.result at
          c.loop-place.invariant.floor c.seen.ensures;
      next = c.entry_after-next.ensures;
      good = one_point_more c.args.setup c.args.entries c.args.deeds.now c.loop-place.place c.loop-place.floor c.loop-place.next
          c.index-deeds-place.result at c.loop-place.invariant.floor c.loop-place.invariant.next c.loop-place.invariant.good
          (c.has_right_point.ensures.0 c.if-not-has_right_point.false);
    }

pub returns : goal.returns
returns c = λ place deed q h there point. c.loop-place.invariant.good place deed q (omega arith) there point
