use Rattle.std.proofs.Common.{◌∙◌, ap, sym, rules}
use Rattle.mx_core.specs.Acknowledging.{CanLook}
use Rattle.mx_worlds.specs.Shows.{Counts, columns}
use Rattle.mx_core.specs.World.{Process}
use Rattle.mx_core.proofs.ProcessLaws.{look_law}
use Rattle.mx_worlds.proofs.Seating.{seat_shown, process_parts, process_is, pending_is}
use Rattle.mx_worlds.proofs.worlds.World.look.Goals as goal

pub returns : goal.returns
returns c w shows =
    let p = c.args.process in
    let m = c.args.self.now in
    let s = seat_shown m.seats.items w c.from-place.result p c.index.result.now (search rules) (search rules)
    c.index.ensures shows.parts.shows in
    let t = seat_shown m.seats.items w c.from-place.result p c.index-2.result.now (search rules) (search rules)
    c.index-2.ensures shows.parts.shows in
    let can : CanLook w p = record {
      range = process_is _ w p shows.parts.same (search rules) (search rules);
      pending = pending_is _ w shows.parts.same (search rules);
      connected = sym (ap (λ (o : Process). o.connect) s.process) ∙ (search rules)
          ∙ sym (ap (λ (x : Counts). x.length) shows.parts.same);
      inside = λ down. let e = ap (λ (o : Process). o.flag) t.process ∙ down in search rules;
    } in (
      can,
      record {
        parts = process_parts _ _ _ _ _ _ w c.from-place.result p c.index_mut.result.now c.keep_look.new.self
            (search rules)
            (search rules) c.index_mut.ensures.value shows.parts (record (w.process p) { look = (w.process p).flag })
            (c.keep_look.ensures w.numbers (columns w p));
        good = look_law w p shows.good can;
      },
    )
