use Rattle.std.proofs.Common.{◌≡◌, Some, length, refl}
use Rattle.std.specs.List.{slice_get}
use Rattle.std.proofs.lemmas.Option.{slice_get_read}
use Rattle.mx_points.proofs.LineLaws.{is_line, passed_more}
use Rattle.mx_points.proofs.lines.line_of_event.Goals as goal

pub returns-then-left-events : goal.returns-then-left-events
returns-then-left-events c =
    let at : slice_get c.args.lines.now c.loop-k.k ≡ Some c.index-lines-k.result =
    slice_get_read c.args.lines.now (length c.args.lines.now) c.loop-k.k c.index-lines-k.result refl c.loop-k-test.true c.index-lines-k.is in
    let same : c.index-lines-k.result.1 ≡ c.line.inside.events.now = cc in
    is_line c.args.lines.now c.args.place c.loop-k.left c.loop-k.k c.index-lines-k.result c.line.inside.events.now at same
    c.loop-k.invariant c.if-left-events.true

pub loop-k-preserved : goal.loop-k-preserved
loop-k-preserved c =
    let at : slice_get c.args.lines.now c.loop-k.k ≡ Some c.index-lines-k.result =
    slice_get_read c.args.lines.now (length c.args.lines.now) c.loop-k.k c.index-lines-k.result refl c.loop-k-test.true c.index-lines-k.is in
    let same : c.index-lines-k.result.1 ≡ c.line.inside.events.now = cc in
    passed_more c.args.lines.now c.args.place c.loop-k.left c.loop-k.k c.index-lines-k.result c.line.inside.events.now at same
    c.loop-k.invariant c.if-left-events.false
