use Rattle.std.proofs.Common.{sym}
use Rattle.mx_reader.proofs.FieldLaws.{map_read}
use Rattle.mx_reader.proofs.fields.cut_map.Goals as goal

pub returns : goal.returns
returns c =
    map_read c.args.text.now (c.in_ok-gate.gate, c.in_ok-gate.rest.now) (c.in_ok-definitions.definitions, c.in_ok-definitions.rest.now)
    (c.in_ok-links.links, c.in_ok-links.rest.now) (sym c.in_ok-gate.ensures) (sym c.in_ok-definitions.ensures) (sym c.in_ok-links.ensures)
