use Rattle.std.proofs.Common.{sym, ◌∙◌}
use Rattle.mx_outcomes.proofs.PlaceLaws.{new_all, new_next, place_found}
use Rattle.mx_outcomes.proofs.tallies.place_of.Goals as goal

pub returns-then-eq : goal.returns-then-eq
returns-then-eq c = place_found c.args.outcomes.now c.args.rows.now c.loop-place.place c.index-rows-place.result c.loop-place-test.true
    c.index-rows-place.is c.loop-place.invariant (sym c.eq.ensures ∙ c.if-eq.true)

pub loop-place-preserved : goal.loop-place-preserved
loop-place-preserved c = new_next c.args.outcomes.now c.args.rows.now c.loop-place.place c.index-rows-place.result c.loop-place-test.true
    c.index-rows-place.is c.loop-place.invariant (sym c.eq.ensures ∙ c.if-eq.false)

pub returns : goal.returns
returns c = new_all c.args.outcomes.now c.args.rows.now c.loop-place.place c.loop-place-test.false c.loop-place.invariant
