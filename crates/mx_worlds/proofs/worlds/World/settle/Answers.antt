use Rattle.std.proofs.Common.{inl, inr, refl, rules}
use Rattle.mx_core.specs.Notions.{IsPair}
use Rattle.mx_worlds.specs.Shows.{columns}
use Rattle.mx_core.specs.Striking.{CanSettle}
use Rattle.mx_core.proofs.HistoryLaws.{settle_law}
use Rattle.mx_worlds.proofs.Seating.{seat_shown, settle_parts, process_is, resting_is}
use Rattle.mx_worlds.proofs.worlds.World.settle.Goals as goal

pub returns-in_default : goal.returns-in_default
returns-in_default c w shows =
    let p = c.args.process in
    let m = c.args.self.now in
    let s = seat_shown m.seats.items w c.from-place.result p c.index.result.now (search rules) (search rules)
    c.index.ensures shows.parts.shows in
    let t = seat_shown m.seats.items w c.from-place.result p c.index-2.result.now (search rules) (search rules)
    c.index-2.ensures shows.parts.shows in
    let pair : IsPair w p c.args.segno =
    record {
      process = process_is _ w p shows.parts.same (search rules) (search rules);
      number = let e = s.numbers in
          search rules;
    } in (
      inr (
        pair,
        inr (
          resting_is _ w shows.parts.same (search rules),
          inl (λ faulty. c.in_default.ensures w.numbers (columns w p) t faulty.by faulty.at, refl),
        ),
      ),
      shows,
    )

pub returns : goal.returns
returns c w shows =
    let p = c.args.process in
    let m = c.args.self.now in
    let s = seat_shown m.seats.items w c.from-place.result p c.index.result.now (search rules) (search rules)
    c.index.ensures shows.parts.shows in
    let t = seat_shown m.seats.items w c.from-place.result p c.index-2.result.now (search rules) (search rules)
    c.index-2.ensures shows.parts.shows in
    let n = c.args.segno in
    let at = c.in-Some.ensures w.numbers (columns w p) t in
    let can : CanSettle w p c.args.segno = record {
      range = record {
        process = process_is _ w p shows.parts.same (search rules)
            (search rules);
        number = let e = s.numbers in search rules;
      };
      rest = resting_is _ w shows.parts.same (search rules);
      fault = record { by = c.in-Some.by; at = at };
    } in (
      can,
      record {
        parts = settle_parts _ _ _ _ _ _ w c.from-place.result p c.index_mut.result.now c.settle.new.self (search rules)
            (search rules) c.index_mut.ensures.value shows.parts n c.in-Some.by at
            (c.settle.ensures w.numbers (columns w p));
        good = settle_law w p n shows.good can;
      },
    )
