use Rattle.std.proofs.Common.{◌∙◌, inl, inr, true, ap, sym, refl, rules}
use Rattle.mx_core.specs.Acknowledging.{CanAcknowledge}
use Rattle.mx_worlds.specs.Shows.{Counts, columns}
use Rattle.mx_core.specs.World.{Process}
use Rattle.mx_core.proofs.ProcessLaws.{acknowledge_law}
use Rattle.mx_worlds.proofs.Seating.{seat_shown, process_parts, process_is, pending_is}
use Rattle.mx_worlds.proofs.worlds.World.acknowledge.Goals as goal

pub returns-then-not-has_left : goal.returns-then-not-has_left
returns-then-not-has_left c w shows =
    let p = c.args.process in
    let m = c.args.self.now in
    let s = seat_shown m.seats.items w c.from-place.result p c.index.result.now (search rules) (search rules)
    c.index.ensures shows.parts.shows in
    let t = seat_shown m.seats.items w c.from-place.result p c.index-2.result.now (search rules) (search rules)
    c.index-2.ensures shows.parts.shows in (
      inr (
        process_is _ w p shows.parts.same (search rules) (search rules),
        inr (
          pending_is _ w shows.parts.same (search rules),
          inr (
            sym (ap (λ (o : Process). o.connect) s.process) ∙ (search rules)
                ∙ sym (ap (λ (x : Counts). x.length) shows.parts.same),
            inl (λ left. let is = (c.has_left.ensures w.numbers (columns w p) t).1 left in search rules, refl),
          ),
        ),
      ),
      shows,
    )

pub returns : goal.returns
returns c w shows =
    let p = c.args.process in
    let m = c.args.self.now in
    let s = seat_shown m.seats.items w c.from-place.result p c.index.result.now (search rules) (search rules)
    c.index.ensures shows.parts.shows in
    let t = seat_shown m.seats.items w c.from-place.result p c.index-2.result.now (search rules) (search rules)
    c.index-2.ensures shows.parts.shows in
    let can : CanAcknowledge w p = record {
      range = process_is _ w p shows.parts.same (search rules) (search rules);
      pending = pending_is _ w shows.parts.same (search rules);
      connected = sym (ap (λ (o : Process). o.connect) s.process) ∙ (search rules)
          ∙ sym (ap (λ (x : Counts). x.length) shows.parts.same);
      left = (c.has_left.ensures w.numbers (columns w p) t).0 (search rules);
    } in (
      can,
      record {
        parts = process_parts _ _ _ _ _ _ w c.from-place.result p c.index_mut.result.now c.acknowledge.new.self
            (search rules)
            (search rules) c.index_mut.ensures.value shows.parts (record (w.process p) { acknowledged = true })
            (c.acknowledge.ensures w.numbers (columns w p));
        good = acknowledge_law w p shows.good can;
      },
    )
