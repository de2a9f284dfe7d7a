use Rattle.std.proofs.Common.{◌≡◌, ℕ, IfSome, subst, rules}
use Rattle.mx_stores.specs.Rows.{IsInGroup}
use Rattle.mx_stores.proofs.reader.choice.Goals as goal

pub returns-else-storer-read-clause-at : goal.returns-else-storer-read-clause-at
returns-else-storer-read-clause-at c = λ done rows anybody n.
    let w : c.from-storer.result ≡ c.args.read.now.writer = search rules in
    subst (λ (u : ℕ). IfSome c.other_choice.result (λ chosen. IsInGroup c.args.rows.now.tables.items c.args.rows.now.groups.items u c.args.read.now.cell chosen.place chosen.group chosen.at))
    w (c.other_choice.ensures.at done rows)
