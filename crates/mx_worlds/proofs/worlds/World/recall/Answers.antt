use Rattle.std.proofs.Common.{◌∙◌, ap, sym, refl, rules}
use Rattle.mx_core.specs.AssociativeMemory.{recalled}
use Rattle.mx_core.specs.Loading.{CanRecall}
use Rattle.mx_worlds.specs.Shows.{columns}
use Rattle.mx_core.specs.World.{Process}
use Rattle.mx_core.proofs.JudgingLaws.{recall_law}
use Rattle.mx_worlds.proofs.Seating.{seat_shown, recalled_parts, same_parts, process_is}
use Rattle.mx_worlds.proofs.worlds.World.recall.Goals as goal

pub returns-in-Ok : goal.returns-in-Ok
returns-in-Ok c w shows =
    let p = c.args.process in
    let m = c.args.self.now in
    let s = seat_shown m.seats.items w c.from-place.result p c.index.result.now (search rules) (search rules)
    c.index.ensures shows.parts.shows in
    let t = seat_shown m.seats.items w c.from-place.result p c.index-2.result.now (search rules) (search rules)
    c.index-2.ensures shows.parts.shows in
    let at = sym (ap (λ (o : Process). recalled c.args.segno o.memory) t.process) ∙ sym c.recall.ensures
    ∙ c.in-Some.is in
    let can : CanRecall w p c.args.segno = record {
      range = process_is _ w p shows.parts.same (search rules) (search rules);
      ready = sym (ap (λ (o : Process). o.stage) s.process) ∙ (search rules);
      recall = record { triple = c.in-Some.triple; at = at };
    } in (
      can,
      record {
        parts = recalled_parts _ _ _ _ _ _ w c.from-place.result p c.index_mut.result.now c.judge.new.self
            (search rules)
            (search rules) c.index_mut.ensures.value shows.parts c.args.segno c.args.asked c.in-Some.triple at
            (c.in-Ok.ensures w.numbers (columns w p));
        good = recall_law w p c.args.segno c.args.asked shows.good can;
      },
    )

pub returns-in-Err : goal.returns-in-Err
returns-in-Err c w shows =
    let p = c.args.process in
    let m = c.args.self.now in
    let s = seat_shown m.seats.items w c.from-place.result p c.index.result.now (search rules) (search rules)
    c.index.ensures shows.parts.shows in
    let t = seat_shown m.seats.items w c.from-place.result p c.index-2.result.now (search rules) (search rules)
    c.index-2.ensures shows.parts.shows in
    let at = sym (ap (λ (o : Process). recalled c.args.segno o.memory) t.process) ∙ sym c.recall.ensures
    ∙ c.in-Some.is in
    let can : CanRecall w p c.args.segno = record {
      range = process_is _ w p shows.parts.same (search rules) (search rules);
      ready = sym (ap (λ (o : Process). o.stage) s.process) ∙ (search rules);
      recall = record { triple = c.in-Some.triple; at = at };
    } in (
      (can, refl),
      record {
        parts = same_parts _ _ _ _ _ _ w c.from-place.result p c.index_mut.result.now c.judge.new.self (search rules)
            (search rules) c.index_mut.ensures.value shows.parts (c.in-Err.ensures w.numbers (columns w p));
        good = shows.good;
      },
    )
