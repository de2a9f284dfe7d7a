use Rattle.std.proofs.Common.{inl, inr, ◌+◌, ap, refl, rules}
use Rattle.std.specs.Vec.{vec_len}
use Rattle.mx_core.specs.Append.{IsEntryInRange, CanAppend}
use Rattle.mx_worlds.specs.Marking.{AreInPlace}
use Rattle.mx_worlds.specs.Shows.{Counts, columns}
use Rattle.mx_core.proofs.AppendLaw.{append_law}
use Rattle.mx_worlds.proofs.Searching.{yes_by, not_by}
use Rattle.mx_worlds.proofs.Seating.{append_shown, resting_is, length_is}
use Rattle.mx_worlds.proofs.worlds.World.append.Goals as goal

pub returns-then-not-is_in_range : goal.returns-then-not-is_in_range
returns-then-not-is_in_range c w shows = (
  inl (
    not_by (IsEntryInRange w c.args.process c.args.changes.now c.args.given.now) c.is_in_range.result (search rules)
        (c.is_in_range.ensures w shows),
    refl,
  ),
  shows,
)

pub returns-then-self-ge262143 : goal.returns-then-self-ge262143
returns-then-self-ge262143 c w shows =
    let range = yes_by (IsEntryInRange w c.args.process c.args.changes.now c.args.given.now) c.is_in_range.result
    (search rules) (c.is_in_range.ensures w shows) in
    let e = length_is _ w shows.parts.same in
    (inr (range, inl (λ under. search rules, refl)), shows)

pub returns-then-self : goal.returns-then-self
returns-then-self c w shows =
    let range = yes_by (IsEntryInRange w c.args.process c.args.changes.now c.args.given.now) c.is_in_range.result
    (search rules) (c.is_in_range.ensures w shows) in
    let e = length_is _ w shows.parts.same in
    let a = ap (λ (x : Counts). x.answered) shows.parts.same in
    (inr (range, inr (search rules, inl (λ rest. search rules, refl))), shows)

pub returns-in-Some : goal.returns-in-Some
returns-in-Some c w shows =
    let given = c.args.given.now in
    let range = yes_by (IsEntryInRange w c.args.process c.args.changes.now given) c.is_in_range.result
    (search rules) (c.is_in_range.ensures w shows) in
    let e = length_is _ w shows.parts.same in
    let first = c.in-Some.ensures w shows range.pages in (
      inr (
        range,
        inr (
          search rules,
          inr (
            resting_is _ w shows.parts.same (search rules),
            inl (
              λ all. first.fails (all c.in-Some.page),
              record { at = c.in-Some.page; is = refl; first = first },
            ),
          ),
        ),
      ),
      shows,
    )

pub returns-in-Some-first_not_given : goal.returns-in-Some-first_not_given
returns-in-Some-first_not_given c w shows =
    let given = c.args.given.now in
    let changes = c.args.changes.now in
    let range = yes_by (IsEntryInRange w c.args.process changes given) c.is_in_range.result
    (search rules) (c.is_in_range.ensures w shows) in
    let e = length_is _ w shows.parts.same in
    let first = c.in-Some-first_not_given.ensures w shows range.each in (
      inr (
        range,
        inr (
          search rules,
          inr (
            resting_is _ w shows.parts.same (search rules),
            inr (
              λ page. c.in_default.ensures w shows range.pages page,
              inl (
                λ all. first.fails (all c.in-Some-first_not_given.page),
                record { at = c.in-Some-first_not_given.page; is = refl; first = first },
              ),
            ),
          ),
        ),
      ),
      shows,
    )

pub returns : goal.returns
returns c w shows =
    let m = c.args.self.now in
    let given = c.args.given.now in
    let changes = c.args.changes.now in
    let range = yes_by (IsEntryInRange w c.args.process changes given) c.is_in_range.result
    (search rules) (c.is_in_range.ensures w shows) in
    let e = length_is _ w shows.parts.same in
    let can : CanAppend w c.args.process changes given = record {
      range = range;
      limit = search rules;
      rest = resting_is _ w shows.parts.same (search rules);
      clear = λ page. c.in_default.ensures w shows range.pages page;
      covered = λ page. c.in_default-first_not_given.ensures w shows range.each page;
    } in
    let places : AreInPlace w.numbers (vec_len m.seats) changes = λ i a at.
    let good = range.each i a at in
    let f = ap (λ (x : Counts). x.processes) shows.parts.same in
    let high = good.pair.process.high in
    record { process = search rules; number = good.pair.number } in (
      can,
      record {
        parts = record {
          same = λ i. record (shows.parts.same i) { length = e i + 1 };
          shows = append_shown c.put_changes.new.seats.items w c.args.process changes given
              shows.good.access.answered_low
              (c.put_changes.ensures.shown w.numbers (columns w) (w.table w.length) places shows.parts.shows);
          memory = record {
            cells = shows.parts.memory.cells;
            clean_cells = c.soil.ensures.shown w.clean shows.parts.memory.clean_cells;
            ready_pages = c.make_ready.ensures.shown w.ready shows.parts.memory.ready_pages;
          };
          notes = shows.parts.notes;
        };
        good = append_law w c.args.process changes given shows.good can;
      },
    )
