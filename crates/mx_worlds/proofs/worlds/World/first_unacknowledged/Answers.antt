use Rattle.std.proofs.Common.{Bool, refl, subst, rules}
use Rattle.std.specs.Prelude.{MatchBool}
use Rattle.mx_core.specs.Causes.{AcknowledgedAt}
use Rattle.mx_worlds.specs.Seating.{AreAcknowledged}
use Rattle.mx_worlds.specs.Shows.{columns}
use Rattle.mx_worlds.proofs.Pending.{all_acknowledged, below_acknowledged}
use Rattle.mx_worlds.proofs.Searching.{one_more}
use Rattle.mx_worlds.proofs.Seating.{seat_shown}
use Rattle.mx_worlds.proofs.worlds.World.first_unacknowledged.Goals as goal

pub returns-then-owes : goal.returns-then-owes
returns-then-owes c w shows =
    let m = c.args.self.now in
    let p = c.loop-place.place in
    let s = seat_shown m.seats.items w p p c.index.result.now refl (search rules) c.index.ensures shows.parts.shows in
    let owed = subst (λ (b : Bool). MatchBool b (AreAcknowledged (columns w p) w.numbers → ⊥)
    (AreAcknowledged (columns w p) w.numbers)) c.if-owes.true (c.owes.ensures w.numbers (columns w p) s) in
    record {
      fails = λ all. owed (below_acknowledged w shows.good p all);
      before = λ q under. c.loop-place.invariant w shows q under;
    }

pub loop-place-preserved : goal.loop-place-preserved
loop-place-preserved c w shows q under =
    let m = c.args.self.now in
    let p = c.loop-place.place in
    let s = seat_shown m.seats.items w p p c.index.result.now refl (search rules) c.index.ensures shows.parts.shows in
    let paid = subst (λ (b : Bool). MatchBool b (AreAcknowledged (columns w p) w.numbers → ⊥)
    (AreAcknowledged (columns w p) w.numbers)) c.if-owes.false (c.owes.ensures w.numbers (columns w p) s) in
    one_more (AcknowledgedAt w) p (λ r l. c.loop-place.invariant w shows r l)
    (all_acknowledged w shows.good p paid) q under
