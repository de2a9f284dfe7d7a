use Rattle.std.proofs.Common.{◌≡◌, Some, length, refl, arith}
use Rattle.std.specs.List.{slice_get}
use Rattle.std.proofs.lemmas.Bool.{iff_false}
use Rattle.std.proofs.lemmas.Option.{slice_get_read}
use Rattle.mx_transcript.specs.Misses.{IsChanged}
use Rattle.mx_points.proofs.MissLaws.{lasts_more, no_misses, right_deed, tells_at, wrong_deed}
use Rattle.mx_points.proofs.misses.first_wrong_miss.Goals as goal

pub loop-place-init : goal.loop-place-init
loop-place-init c = record {
  lasts = c.requires;
  next = c.first_entry-next.ensures;
  good = λ session changes. no_misses c.args.journal.now (IsChanged session c.args.journal.now c.args.p) c.args.p c.args.deeds.now;
}

pub returns-then-not-take_deed : goal.returns-then-not-take_deed
returns-then-not-take_deed c = λ session changes.
    let at : slice_get c.args.deeds.now c.loop-place.place ≡ Some c.index-deeds-place.result =
    slice_get_read c.args.deeds.now (length c.args.deeds.now) c.loop-place.place c.index-deeds-place.result refl c.loop-place-test.true c.index-deeds-place.is in
    wrong_deed c.args.journal.now (IsChanged session c.args.journal.now c.args.p) c.args.p c.args.deeds.now c.loop-place.place c.index-deeds-place.result
    c.is_set-changed.result c.loop-place.lasts c.loop-place.next at
    (tells_at c.is_set-changed.result c.args.changes.now c.args.deeds.now c.loop-place.place (IsChanged session c.args.journal.now c.args.p) c.is_set-changed.ensures changes)
    c.take_deed.ensures.fits c.loop-place.invariant.lasts c.loop-place.invariant.next (c.loop-place.invariant.good session changes)
    (iff_false c.take_deed.ensures.right c.if-not-take_deed.true)

pub loop-place-preserved : goal.loop-place-preserved
loop-place-preserved c =
    let at : slice_get c.args.deeds.now c.loop-place.place ≡ Some c.index-deeds-place.result =
    slice_get_read c.args.deeds.now (length c.args.deeds.now) c.loop-place.place c.index-deeds-place.result refl c.loop-place-test.true c.index-deeds-place.is in
    record {
      lasts = lasts_more c.args.journal.now c.args.p c.is_set-changed.result c.loop-place.next c.args.deeds.now c.loop-place.place c.index-deeds-place.result
          c.loop-place.lasts c.take_deed.new.lasts at (c.take_deed.ensures.right.0 c.if-not-take_deed.false) c.take_deed.ensures.fits
          (c.take_deed.ensures.taken c.if-not-take_deed.false) c.loop-place.invariant.lasts;
      next = c.entry_after-next.ensures;
      good = λ session changes.
          right_deed c.args.journal.now (IsChanged session c.args.journal.now c.args.p) c.args.p c.args.deeds.now c.loop-place.place c.index-deeds-place.result
          c.is_set-changed.result c.loop-place.lasts c.loop-place.next at
          (tells_at c.is_set-changed.result c.args.changes.now c.args.deeds.now c.loop-place.place (IsChanged session c.args.journal.now c.args.p) c.is_set-changed.ensures changes)
          c.take_deed.ensures.fits c.loop-place.invariant.lasts c.loop-place.invariant.next (c.loop-place.invariant.good session changes)
          (c.take_deed.ensures.right.0 c.if-not-take_deed.false);
    }

pub returns : goal.returns
returns c = λ session changes place segno by h there. c.loop-place.invariant.good session changes place segno by (omega arith) there
