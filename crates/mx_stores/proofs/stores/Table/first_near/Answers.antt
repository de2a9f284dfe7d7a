use Rattle.mx_stores.proofs.Tables.{level_from}
use Rattle.mx_stores.proofs.stores.Table.first_near.Goals as goal

pub returns-then-are_lower : goal.returns-then-are_lower
returns-then-are_lower c = λ deeds table.
    level_from _ _ _ _ table.reach (c.step_to.ensures (c.are_lower.ensures deeds table c.if-are_lower.true))
