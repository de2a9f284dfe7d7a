use Rattle.std.proofs.Common.{◌≡◌, ◌≤◌, Some, length, refl, arith}
use Rattle.std.specs.List.{slice_get}
use Rattle.std.proofs.lemmas.Option.{slice_get_read}
use Rattle.mx_points.proofs.NamingLaws.{all_named, misnamed_here, named_more, named_short}
use Rattle.mx_points.proofs.naming.first_misnamed.Goals as goal

pub returns-in-None : goal.returns-in-None
returns-in-None c =
    let at : slice_get c.args.lines.now c.loop-place.place ≡ Some c.index-lines-place.result =
    slice_get_read c.args.lines.now (length c.args.lines.now) c.loop-place.place c.index-lines-place.result refl c.loop-place-test.true c.index-lines-place.is in
    let same : c.line.inside.events.now ≡ c.index-lines-place.result.1 = cc in
    misnamed_here c.args.p c.args.journal.now c.args.lines.now c.loop-place.place c.loop-place.from c.index-lines-place.result
    c.line.inside.events.now at same c.loop-place.invariant c.in-None.ensures

pub loop-place-preserved : goal.loop-place-preserved
loop-place-preserved c =
    let at : slice_get c.args.lines.now c.loop-place.place ≡ Some c.index-lines-place.result =
    slice_get_read c.args.lines.now (length c.args.lines.now) c.loop-place.place c.index-lines-place.result refl c.loop-place-test.true c.index-lines-place.is in
    let same : c.line.inside.events.now ≡ c.index-lines-place.result.1 = cc in
    named_more c.args.p c.args.journal.now c.args.lines.now c.loop-place.place c.loop-place.from c.in-Some.next c.index-lines-place.result
    c.line.inside.events.now at same c.loop-place.invariant c.in-Some.ensures

pub returns-in-None-next_own : goal.returns-in-None-next_own
returns-in-None-next_own c =
    let end : length c.args.lines.now ≤ c.loop-place.place = omega arith in
    all_named c.args.p c.args.journal.now c.args.lines.now c.loop-place.place c.loop-place.from end c.loop-place.invariant
    c.in-None-next_own.ensures

pub returns-in-Some-next_own : goal.returns-in-Some-next_own
returns-in-Some-next_own c =
    let end : length c.args.lines.now ≤ c.loop-place.place = omega arith in
    named_short c.args.p c.args.journal.now c.args.lines.now c.loop-place.place c.loop-place.from end c.loop-place.invariant
    _ c.in-Some-next_own.ensures
