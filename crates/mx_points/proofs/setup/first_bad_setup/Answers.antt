use Rattle.std.proofs.Common.{◌≡◌, Some, length, refl}
use Rattle.std.specs.List.{slice_get}
use Rattle.std.proofs.lemmas.Option.{slice_get_read}
use Rattle.mx_points.proofs.SetupLaws.{as_it_should, one_setup_more}
use Rattle.mx_points.proofs.setup.first_bad_setup.Goals as goal

pub loop-place-preserved : goal.loop-place-preserved
loop-place-preserved c =
    let at : slice_get c.args.lines.now c.loop-place.place ≡ Some c.index-lines-place.result =
    slice_get_read c.args.lines.now (length c.args.lines.now) c.loop-place.place c.index-lines-place.result refl c.loop-place-test.true c.index-lines-place.is in
    one_setup_more c.args.setup c.args.lines.now c.loop-place.place c.index-lines-place.result at c.loop-place.invariant
    (as_it_should c.args.setup c.loop-place.place c.is_full.result c.index-lines-place.result c.is_full.ensures c.if-is_past-is_full.false)
