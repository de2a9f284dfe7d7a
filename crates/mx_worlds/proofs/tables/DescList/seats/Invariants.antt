use Rattle.std.proofs.Common.{◌≡◌, ◌+◌}
use Rattle.std.specs.Vec.{vec_len}
use Rattle.mx_worlds.specs.Marking.{AllShow}
use Rattle.mx_worlds.specs.Tables.{table_of, opening_columns}
use Rattle.mx_worlds.proofs.tables.DescList.seats.Given as goal

abbrev pub invariant-loop-row : goal.invariant-loop-row
invariant-loop-row l = (vec_len l.seats ≡ l.row-index + 1)
    × AllShow l.self.numbers l.seats.items (λ p. opening_columns l.start (table_of l.self p))
