use Rattle.mx_stores.specs.Parts.{deeds_of}
use Rattle.mx_stores.proofs.EndLaws.{part_rows}
use Rattle.mx_stores.proofs.rows.Rows.beside.Goals as goal

pub returns : goal.returns
returns g c =
    part_rows c.args.parts.now c.in_ok-tables.tables.items c.as_slice.result.now c.in_ok-ends.ends.items c.with_ends.result
    c.in_ok-tables.ensures c.as_slice.ensures.value (c.in_ok-ends.ensures (deeds_of c.args.parts.now)) c.with_ends.ensures.tables
    c.with_ends.ensures.rows
