use Rattle.std.proofs.Common.{max, ap, length, rules}
use Rattle.mx_core.specs.Notes.{CanReport}
use Rattle.mx_worlds.specs.Shows.{columns}
use Rattle.mx_core.proofs.HistoryLaws.{report_law}
use Rattle.mx_worlds.proofs.Seating.{seat_shown, reported_parts, process_is}
use Rattle.mx_worlds.proofs.worlds.World.report.Goals as goal

pub returns : goal.returns
returns c w shows =
    let p = c.args.process in
    let m = c.args.self.now in
    let s = seat_shown m.seats.items w c.from-place.result p c.index.result.now (search rules) (search rules)
    c.index.ensures shows.parts.shows in
    let can : CanReport w p c.args.length = record {
      range = process_is _ w p shows.parts.same (search rules) (search rules);
      within = let e = ap length s.trace in search rules;
    } in (
      can,
      record {
        parts = reported_parts _ _ _ _ _ _ w c.from-place.result p c.index_mut.result.now c.report.new.self
            (search rules)
            (search rules) c.index_mut.ensures.value shows.parts (max (w.reported p) c.args.length)
            (c.report.ensures w.numbers (columns w p));
        good = report_law w p c.args.length shows.good can;
      },
    )
