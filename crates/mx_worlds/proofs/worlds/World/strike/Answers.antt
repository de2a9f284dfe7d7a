use Rattle.std.proofs.Common.{inl, inr, refl, rules}
use Rattle.mx_core.specs.Notions.{IsPair}
use Rattle.mx_worlds.specs.Shows.{columns}
use Rattle.mx_core.specs.Striking.{CanStrike}
use Rattle.mx_core.proofs.HistoryLaws.{strike_law}
use Rattle.mx_worlds.proofs.Seating.{seat_shown, strike_parts, process_is, pending_is}
use Rattle.mx_worlds.proofs.worlds.World.strike.Goals as goal

pub returns-then-not-is_changed : goal.returns-then-not-is_changed
returns-then-not-is_changed c w shows =
    let p = c.args.process in
    let m = c.args.self.now in
    let s = seat_shown m.seats.items w c.from-place.result p c.index.result.now (search rules) (search rules)
    c.index.ensures shows.parts.shows in
    let t = seat_shown m.seats.items w c.from-place.result p c.index-2.result.now (search rules) (search rules)
    c.index-2.ensures shows.parts.shows in
    let pair : IsPair w p c.args.segno =
    record {
      process = process_is _ w p shows.parts.same (search rules) (search rules);
      number = let e = s.numbers in
          search rules;
    } in (
      inr (
        pair,
        inr (
          pending_is _ w shows.parts.same (search rules),
          inl (λ changed. let is = (c.is_changed.ensures w.numbers (columns w p) t).1 changed in search rules, refl),
        ),
      ),
      shows,
    )

pub returns : goal.returns
returns c w shows =
    let p = c.args.process in
    let m = c.args.self.now in
    let s = seat_shown m.seats.items w c.from-place.result p c.index.result.now (search rules) (search rules)
    c.index.ensures shows.parts.shows in
    let t = seat_shown m.seats.items w c.from-place.result p c.index-2.result.now (search rules) (search rules)
    c.index-2.ensures shows.parts.shows in
    let can : CanStrike w p c.args.segno = record {
      range = record {
        process = process_is _ w p shows.parts.same (search rules)
            (search rules);
        number = let e = s.numbers in search rules;
      };
      pending = pending_is _ w shows.parts.same (search rules);
      changed = (c.is_changed.ensures w.numbers (columns w p) t).0 (search rules);
    } in (
      can,
      record {
        parts = strike_parts _ _ _ _ _ _ w c.from-place.result p c.index_mut.result.now c.strike.new.self (search rules)
            (search rules) c.index_mut.ensures.value shows.parts c.args.segno
            (c.strike.ensures w.numbers (columns w p));
        good = strike_law w p c.args.segno shows.good can;
      },
    )
