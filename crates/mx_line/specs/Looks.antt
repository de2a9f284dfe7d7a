-- What is asked for where an indirect word is read.
use Rattle.std.specs.Prelude.{None}
use Rattle.mx_sdw.specs.declared.operations.Op.TheVariants as op
use Rattle.mx_transcript.specs.Next.{Reference}
use Rattle.mx_line.specs.declared.operands.Place.{Place}

abbrev pub looks : Place → Reference
looks place = record { op = op.Indirect; segno = place.segno; word = place.word; ring = place.ring; stores = None }
