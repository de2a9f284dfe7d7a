use Rattle.std.proofs.Common.{◌∙◌, ap, sym, rules}
use Rattle.mx_core.specs.Entering.{CanLoadConnect, connect_loaded}
use Rattle.mx_worlds.specs.Shows.{columns}
use Rattle.mx_core.specs.World.{Process}
use Rattle.mx_core.proofs.ProcessLaws.{load_connect_law}
use Rattle.mx_worlds.proofs.Seating.{seat_shown, process_parts, process_is}
use Rattle.mx_worlds.proofs.worlds.World.load_connect.Goals as goal

pub returns : goal.returns
returns c w shows =
    let p = c.args.process in
    let m = c.args.self.now in
    let s = seat_shown m.seats.items w c.from-place.result p c.index.result.now (search rules) (search rules)
    c.index.ensures shows.parts.shows in
    let can : CanLoadConnect w p = record {
      range = process_is _ w p shows.parts.same (search rules) (search rules);
      entering = sym (ap (λ (o : Process). o.stage) s.process) ∙ (search rules);
    } in (
      can,
      record {
        parts = process_parts _ _ _ _ _ _ w c.from-place.result p c.index_mut.result.now c.load_connect.new.self
            (search rules)
            (search rules) c.index_mut.ensures.value shows.parts (connect_loaded (w.process p))
            (c.load_connect.ensures w.numbers (columns w p));
        good = load_connect_law w p shows.good can;
      },
    )
