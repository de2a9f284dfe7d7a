use Rattle.std.proofs.Common.{rules}
use Rattle.mx_core.specs.Notes.{CanSplit}
use Rattle.mx_core.proofs.HistoryLaws.{split_law}
use Rattle.mx_worlds.proofs.Seating.{split_parts, resting_is}
use Rattle.mx_worlds.proofs.worlds.World.split.Goals as goal

pub returns : goal.returns
returns c w shows =
    let can : CanSplit w = record { rest = resting_is _ w shows.parts.same (search rules) } in (
      can,
      record {
        parts = split_parts _ _ _ _ _ _ _ w shows.parts (search rules);
        good = split_law w shows.good can;
      },
    )
