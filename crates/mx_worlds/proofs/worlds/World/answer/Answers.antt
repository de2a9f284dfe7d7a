use Rattle.std.proofs.Common.{rules}
use Rattle.mx_core.specs.Acknowledging.{CanAnswer}
use Rattle.mx_worlds.specs.Shows.{columns}
use Rattle.mx_core.proofs.HistoryLaws.{answer_law}
use Rattle.mx_worlds.proofs.Seating.{pending_is, length_is}
use Rattle.mx_worlds.proofs.worlds.World.answer.Goals as goal

pub returns : goal.returns
returns c w shows =
    let can : CanAnswer w = record {
      pending = pending_is _ w shows.parts.same (search rules);
      struck = c.in_default.ensures w shows;
      acknowledged = λ p n. c.in_default-first_unacknowledged.ensures w shows p n;
    } in
    let e = length_is _ w shows.parts.same in (
      can,
      record {
        parts = record {
          same = λ i. record (shows.parts.same i) { answered = e i };
          shows = c.answer_all.ensures.shown w.numbers (columns w) shows.parts.shows;
          memory = shows.parts.memory;
          notes = shows.parts.notes;
        };
        good = answer_law w shows.good can;
      },
    )
