use Rattle.std.proofs.Common.{◌≡◌, Some, length, refl, sym, ◌∙◌}
use Rattle.std.specs.List.{slice_get}
use Rattle.std.proofs.lemmas.Bool.{iff_false, both_ways}
use Rattle.std.proofs.lemmas.Option.{slice_get_read}
use Rattle.mx_points.proofs.FullLaws.{first_after, none_after_more, one_full_more, still_full, still_none}
use Rattle.mx_points.proofs.full.first_after_full.Goals as goal
use Rattle.mx_points.proofs.full.first_after_full.Goals.{else-full-via-then-full+else-not-names_none, else-full-via-else-full, then-full-2, else-full-2}

pub returns-then-not-names_none : goal.returns-then-not-names_none
returns-then-not-names_none c =
    let at : slice_get c.args.lines.now c.loop-place.place ≡ Some c.index-lines-place.result =
    slice_get_read c.args.lines.now (length c.args.lines.now) c.loop-place.place c.index-lines-place.result refl c.loop-place-test.true c.index-lines-place.is in
    first_after c.args.lines.now c.loop-place.place c.index-lines-place.result at c.loop-place.invariant.good
    (c.loop-place.invariant.has c.if-full.true) (iff_false c.names_none.ensures c.if-not-names_none.true)

pub loop-place-preserved : goal.loop-place-preserved
loop-place-preserved c =
    let at : slice_get c.args.lines.now c.loop-place.place ≡ Some c.index-lines-place.result =
    slice_get_read c.args.lines.now (length c.args.lines.now) c.loop-place.place c.index-lines-place.result refl c.loop-place-test.true c.index-lines-place.is in
    record {
      good = none_after_more c.args.lines.now c.loop-place.place c.index-lines-place.result at c.loop-place.invariant.good
          (λ has. elim c.else-full.branch [
            | else-full-via-then-full+else-not-names_none w ↦ w.names_none.ensures.0 w.if-not-names_none.false
            | else-full-via-else-full w ↦ absurd (c.loop-place.invariant.none w.if-full.false has)
          ]);
      has = λ full. elim c.if-full-2.branch [
        | then-full-2 w ↦ still_full c.args.lines.now c.loop-place.place (c.loop-place.invariant.has w.if-full-2.true)
        | else-full-2 w ↦
            one_full_more c.args.lines.now c.loop-place.place c.index-lines-place.result at
            (w.is_full-full.ensures.0 (sym w.full-is ∙ full))
      ];
      none = λ full. elim c.if-full-2.branch [
        | then-full-2 w ↦ absurd (both_ways c.if-full-2.full full (w.full-is ∙ w.if-full-2.true))
        | else-full-2 w ↦
            still_none c.args.lines.now c.loop-place.place c.index-lines-place.result at
            (c.loop-place.invariant.none w.if-full-2.false) (iff_false w.is_full-full.ensures (sym w.full-is ∙ full))
      ];
    }
