use Rattle.std.proofs.Common.{◌≡◌, ℕ, Option, Some, ap, sym, subst, ◌∙◌, rules}
use Rattle.mx_stores.specs.Tables.{IsLevelFrom}
use Rattle.mx_stores.specs.Until.{overwritten}
use Rattle.mx_stores.proofs.Finds.{least_since_found}
use Rattle.mx_stores.proofs.stores.Table.overwritten.Goals as goal

pub returns-in-Some : goal.returns-in-Some
returns-in-Some c = λ deeds table.
    let from : c.args.from ≡ Some c.in-Some.from = search rules in
    c.since_at.ensures
    ∙ least_since_found deeds _ table.stores table.sorted c.args.cell.now c.level_of.ensures.fits c.in-Some.from _
    (subst (λ (n : ℕ). IsLevelFrom c.args.self.now.stores.items n c.first_near.result) c.level_of.ensures.level (c.first_near.ensures deeds table))
    ∙ sym (ap (λ (o : Option ℕ). overwritten c.args.cell.now o deeds) from)
