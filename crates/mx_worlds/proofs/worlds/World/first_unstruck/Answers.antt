use Rattle.std.proofs.Common.{ℕ, refl, rules}
use Rattle.mx_core.specs.Causes.{StruckAt}
use Rattle.mx_worlds.specs.Shows.{columns}
use Rattle.mx_worlds.proofs.Pending.{all_struck, first_open}
use Rattle.mx_worlds.proofs.Searching.{one_more}
use Rattle.mx_worlds.proofs.Seating.{seat_shown, length_is}
use Rattle.mx_worlds.proofs.worlds.World.first_unstruck.Goals as goal

pub returns-in-Some : goal.returns-in-Some
returns-in-Some c w shows =
    let m = c.args.self.now in
    let p = c.loop-place.place in
    let s = seat_shown m.seats.items w p p c.index.result.now refl (search rules) c.index.ensures shows.parts.shows in
    record {
      first = first_open w shows.good p m.count c.in-Some.segno (length_is _ w shows.parts.same)
          (c.in-Some.ensures w.numbers (columns w p) s);
      before = λ q n under. c.loop-place.invariant w shows q n under;
    }

pub loop-place-preserved : goal.loop-place-preserved
loop-place-preserved c w shows q n under =
    let m = c.args.self.now in
    let p = c.loop-place.place in
    let s = seat_shown m.seats.items w p p c.index.result.now refl (search rules) c.index.ensures shows.parts.shows in
    one_more (λ (r : ℕ). (k : ℕ) → StruckAt w r k) p (λ r l k. c.loop-place.invariant w shows r k l)
    (all_struck w shows.good p m.count (length_is _ w shows.parts.same)
    (c.in_default.ensures w.numbers (columns w p) s)) q under n
