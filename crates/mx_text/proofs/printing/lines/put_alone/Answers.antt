use Rattle.std.proofs.Common.{append-nil, ◌∙◌}
use Rattle.mx_text.proofs.TailLaws.{nothing}
use Rattle.mx_text.proofs.printing.lines.put_alone.Goals as goal

pub returns-clause-put : goal.returns-clause-put
returns-clause-put c = c.put_event.ensures.put ∙ rw (nothing c.args.bytes.now c.told-bytes) (append-nil _)
