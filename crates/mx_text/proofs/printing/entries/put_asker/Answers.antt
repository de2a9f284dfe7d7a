use Rattle.std.proofs.Common.{◌∙◌}
use Rattle.mx_text.proofs.TailLaws.{asker_before, nothing}
use Rattle.mx_text.proofs.printing.entries.put_asker.Goals as goal

pub returns-clause-put : goal.returns-clause-put
returns-clause-put c =
    c.put_decimal.ensures.put
    ∙ rw (
      c.put_byte-at-3.ensures.put,
      c.put_decimal-at-2.ensures.put,
      c.put_byte-at-2.ensures.put,
      c.put_decimal-at.ensures.put,
      c.put_byte-at.ensures.put,
      nothing c.args.bytes.now c.told-bytes,
    ) (asker_before _ _ _)
