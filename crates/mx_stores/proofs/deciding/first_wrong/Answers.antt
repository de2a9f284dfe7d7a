use Rattle.std.proofs.Common.{◌≡◌, ◌+◌, ℕ, suc, List, Some, IsSome, length, refl, ap, sym, subst, ◌∙◌, rules, arith}
use Rattle.std.specs.List.{slice_get}
use Rattle.std.proofs.lemmas.Option.{slice_get-get_or}
use Rattle.mx_reads.specs.Deeds.{Deed}
use Rattle.mx_stores.specs.Deciding.{choices}
use Rattle.mx_stores.proofs.Choosing.{matched, some_chosen, taken_at, unmatched, wrong_here}
use Rattle.mx_stores.proofs.deciding.first_wrong.Goals as goal

pub loop-here-init : goal.loop-here-init
loop-here-init c = record {
  process = c.in_ok-reader.ensures.process;
  reading = λ done rows below e. c.in_ok-reader.ensures.reading done rows;
}

pub returns-then-not-take : goal.returns-then-not-take
returns-then-not-take c = λ done rows below e.
    let at : slice_get (done c.args.p) c.loop-here.here ≡ Some c.index-deeds-here.result =
    ap (λ (d : List Deed). slice_get d c.loop-here.here) e
    ∙ slice_get-get_or c.args.deeds.now c.loop-here.here c.index-deeds-here.result c.loop-here-test.true
    ∙ ap (λ (d : Deed). Some d) (sym c.index-deeds-here.is) in
    let told = taken_at done c.args.rows.now c.args.p c.loop-here.reader.process c.loop-here.here (suc c.loop-here.here) c.take.result
    c.index-deeds-here.result c.loop-here.reader.sightings c.take.new.self.sightings c.loop-here.invariant.process refl at
    (c.loop-here.invariant.reading done rows below e) (λ f r. c.take.ensures.taken done rows below f r) in
    wrong_here done c.args.rows.now c.args.p c.loop-here.here c.index-deeds-here.result c.loop-here.reader.sightings at
    (c.loop-here.invariant.reading done rows below e) (unmatched c.take.result _ _ c.if-not-take.true told)

pub loop-here-preserved : goal.loop-here-preserved
loop-here-preserved c = record {
  process = c.take.ensures.process ∙ c.loop-here.invariant.process;
  reading = λ done rows below e.
      let at : slice_get (done c.args.p) c.loop-here.here ≡ Some c.index-deeds-here.result =
      ap (λ (d : List Deed). slice_get d c.loop-here.here) e
      ∙ slice_get-get_or c.args.deeds.now c.loop-here.here c.index-deeds-here.result c.loop-here-test.true
      ∙ ap (λ (d : Deed). Some d) (sym c.index-deeds-here.is) in
      let told = taken_at done c.args.rows.now c.args.p c.loop-here.reader.process c.loop-here.here (c.loop-here.here + 1) c.take.result
      c.index-deeds-here.result c.loop-here.reader.sightings c.take.new.self.sightings c.loop-here.invariant.process (omega arith) at
      (c.loop-here.invariant.reading done rows below e) (λ f r. c.take.ensures.taken done rows below f r) in
      matched c.take.result _ _ c.if-not-take.false told;
}

pub returns : goal.returns
returns c = λ done rows below e.
    let end : c.loop-here.here ≡ length c.args.deeds.now = search rules in
    let r = c.loop-here.invariant.reading done rows below e in
    subst (λ (n : ℕ). IsSome (choices done (length c.args.rows.now.tables.items) c.args.p n)) end
    (some_chosen (choices done (length c.args.rows.now.tables.items) c.args.p c.loop-here.here) r.chosen r.is)
