use Rattle.std.proofs.Common.{◌∙◌}
use Rattle.mx_stores.proofs.Finds.{of, replaced_found}
use Rattle.mx_stores.proofs.stores.Table.replaced.Goals as goal

pub returns : goal.returns
returns c = λ deeds table at.
    c.since_at.ensures ∙ replaced_found deeds _ table.stores table.sorted c.args.store.now
    (of deeds _ table.stores table.sorted c.args.here c.args.store.now at) _ (c.next.ensures deeds table at)
