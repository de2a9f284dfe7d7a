use Rattle.std.proofs.Common.{◌∙◌, ap, sym, refl, rules}
use Rattle.mx_core.specs.Loading.{CanLoadDesc}
use Rattle.mx_worlds.specs.Shows.{columns}
use Rattle.mx_core.specs.World.{Process}
use Rattle.mx_core.proofs.JudgingLaws.{load_desc_law}
use Rattle.mx_worlds.proofs.Seating.{seat_shown, loaded_parts, same_parts, process_is}
use Rattle.mx_worlds.proofs.worlds.World.load_desc.Goals as goal

pub returns-in-Ok : goal.returns-in-Ok
returns-in-Ok c w shows =
    let p = c.args.process in
    let m = c.args.self.now in
    let s = seat_shown m.seats.items w c.from-place.result p c.index.result.now (search rules) (search rules)
    c.index.ensures shows.parts.shows in
    let can : CanLoadDesc w p = record {
      range = process_is _ w p shows.parts.same (search rules) (search rules);
      ready = sym (ap (λ (o : Process). o.stage) s.process) ∙ (search rules);
    } in (
      can,
      record {
        parts = loaded_parts _ _ _ _ _ _ w c.from-place.result p c.index_mut.result.now c.load_desc.new.self
            (search rules)
            (search rules) c.index_mut.ensures.value shows.parts c.args.segno c.args.asked
            (c.in-Ok.ensures w.numbers (columns w p));
        good = load_desc_law w p c.args.segno c.args.asked shows.good can;
      },
    )

pub returns-in-Err : goal.returns-in-Err
returns-in-Err c w shows =
    let p = c.args.process in
    let m = c.args.self.now in
    let s = seat_shown m.seats.items w c.from-place.result p c.index.result.now (search rules) (search rules)
    c.index.ensures shows.parts.shows in
    let can : CanLoadDesc w p = record {
      range = process_is _ w p shows.parts.same (search rules) (search rules);
      ready = sym (ap (λ (o : Process). o.stage) s.process) ∙ (search rules);
    } in (
      (can, refl),
      record {
        parts = same_parts _ _ _ _ _ _ w c.from-place.result p c.index_mut.result.now c.load_desc.new.self
            (search rules)
            (search rules) c.index_mut.ensures.value shows.parts (c.in-Err.ensures w.numbers (columns w p));
        good = shows.good;
      },
    )
