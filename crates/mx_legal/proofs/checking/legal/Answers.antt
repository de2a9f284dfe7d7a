use Rattle.std.proofs.Common.{ap, sym, ◌∙◌}
use Rattle.mx_state.specs.declared.journal.Entry.{Entry}
use Rattle.mx_legal.proofs.VerdictLaws.{entry_breach}
use Rattle.mx_legal.proofs.checking.legal.Goals as goal

pub returns-in-Some : goal.returns-in-Some
returns-in-Some g c =
    entry_breach c.args.session.now c.args.journal.now c.args.transcripts.now c.items.result.now c.in_ok-place.field-0 c.in-Some.place
    c.from.result c.index-items-place.result c.items.ensures c.in_ok-place.ensures.first c.in-Some.is c.index-items-place.is
    (c.from.ensures ∙ ap (λ (e : Entry). e.process) (sym c.index-items-place.is))
