use Rattle.std.proofs.Common.{◌∙◌}
use Rattle.mx_text.proofs.TailLaws.{element_before}
use Rattle.mx_text.proofs.printing.lines.put_element.Goals as goal

pub returns-clause-put : goal.returns-clause-put
returns-clause-put c =
    c.put_kind.ensures.put
    ∙ rw (
      c.put_address-at.ensures.put,
      c.put_letters-at-2.ensures.put,
      c.put_decimal-at-2.ensures.put,
      c.from-2.ensures,
      c.number.ensures.number,
      c.put_letters-at.ensures.put,
      c.put_decimal-at.ensures.put,
      c.from.ensures,
      c.put_outcome-at.ensures.put,
      c.put_byte-at.ensures.put,
    ) (element_before _ _ _ _ _ _)
