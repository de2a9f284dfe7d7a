use Rattle.std.proofs.Common.{inl, inr, refl, rules}
use Rattle.mx_core.specs.Acknowledging.{HasChanged, CanConnect}
use Rattle.mx_worlds.specs.Shows.{columns}
use Rattle.mx_worlds.proofs.Pending.{none_changed, all_struck, first_open}
use Rattle.mx_core.proofs.ProcessLaws.{connect_law}
use Rattle.mx_worlds.proofs.Seating.{seat_shown, connect_parts, process_is, pending_is, length_is}
use Rattle.mx_worlds.proofs.worlds.World.connect.Goals as goal

pub returns-in_default : goal.returns-in_default
returns-in_default c w shows =
    let p = c.args.process in
    let m = c.args.self.now in
    let s = seat_shown m.seats.items w c.from-place.result p c.index.result.now (search rules) (search rules)
    c.index.ensures shows.parts.shows in (
      inr (
        process_is _ w p shows.parts.same (search rules) (search rules),
        inr (
          pending_is _ w shows.parts.same (search rules),
          inl (none_changed w shows.good p (c.in_default.ensures w.numbers (columns w p) s), refl),
        ),
      ),
      shows,
    )

pub returns-in-Some-first_unstruck : goal.returns-in-Some-first_unstruck
returns-in-Some-first_unstruck c w shows =
    let p = c.args.process in
    let m = c.args.self.now in
    let s = seat_shown m.seats.items w c.from-place.result p c.index.result.now (search rules) (search rules)
    c.index.ensures shows.parts.shows in
    let t = seat_shown m.seats.items w c.from-place.result p c.index-2.result.now (search rules) (search rules)
    c.index-2.ensures shows.parts.shows in
    let changed : HasChanged w p = record {
      segno = c.in-Some.field-0;
      changed = (c.in-Some.ensures w.numbers (columns w p) s).1;
    } in
    let first = first_open w shows.good p m.count c.in-Some-first_unstruck.segno (length_is _ w shows.parts.same)
    (c.in-Some-first_unstruck.ensures w.numbers (columns w p) t) in (
      inr (
        process_is _ w p shows.parts.same (search rules) (search rules),
        inr (
          pending_is _ w shows.parts.same (search rules),
          inr (
            changed,
            inl (
              λ all. first.fails (all c.in-Some-first_unstruck.segno),
              record { at = c.in-Some-first_unstruck.segno; is = refl; first = first },
            ),
          ),
        ),
      ),
      shows,
    )

pub returns : goal.returns
returns c w shows =
    let p = c.args.process in
    let m = c.args.self.now in
    let s = seat_shown m.seats.items w c.from-place.result p c.index.result.now (search rules) (search rules)
    c.index.ensures shows.parts.shows in
    let t = seat_shown m.seats.items w c.from-place.result p c.index-2.result.now (search rules) (search rules)
    c.index-2.ensures shows.parts.shows in
    let changed : HasChanged w p = record {
      segno = c.in-Some.field-0;
      changed = (c.in-Some.ensures w.numbers (columns w p) s).1;
    } in
    let can : CanConnect w p = record {
      range = process_is _ w p shows.parts.same (search rules) (search rules);
      pending = pending_is _ w shows.parts.same (search rules);
      changed = changed;
      struck = all_struck w shows.good p m.count (length_is _ w shows.parts.same)
          (c.in_default-first_unstruck.ensures w.numbers (columns w p) t);
    } in (
      can,
      record {
        parts = connect_parts _ _ _ _ _ _ w c.from-place.result p c.index_mut.result.now c.connect.new.self
            (search rules) (search rules) c.index_mut.ensures.value shows.parts
            (c.connect.ensures w.numbers (columns w p));
        good = connect_law w p shows.good can;
      },
    )
