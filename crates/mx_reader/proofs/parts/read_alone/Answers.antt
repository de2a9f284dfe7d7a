use Rattle.std.proofs.Common.{sym, ◌∙◌}
use Rattle.mx_reader.proofs.PartLaws.{read_part_of}
use Rattle.mx_reader.proofs.parts.read_alone.Goals as goal

pub returns-in-Some-read_part : goal.returns-in-Some-read_part
returns-in-Some-read_part c =
    read_part_of _ _ (c.in-Some.line.now, c.in-Some.rest.now) c.in-Some-read_part.field-0 c.read_steps.result
    (sym c.in-Some.ensures.cut) (sym c.read_part.ensures ∙ c.in-Some-read_part.is) c.read_steps.ensures
