use Rattle.std.proofs.Common.{◌∙◌}
use Rattle.mx_text.proofs.TailLaws.{line_before, nothing}
use Rattle.mx_text.proofs.printing.lines.put_line.Goals as goal

pub returns-clause-put : goal.returns-clause-put
returns-clause-put c =
    c.put_letters.ensures.put
    ∙ rw (
      c.put_decimal-at.ensures.put,
      c.from.ensures,
      c.put_byte-at-2.ensures.put,
      c.put_result-at.ensures.put,
      c.put_byte-at.ensures.put,
      nothing c.args.bytes.now c.told-bytes,
    ) (line_before _ _)
