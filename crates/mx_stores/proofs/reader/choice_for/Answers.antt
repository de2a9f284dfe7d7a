use Rattle.mx_stores.proofs.Placing.{placed}
use Rattle.mx_stores.proofs.reader.choice_for.Goals as goal

pub returns-in-Some-clause-at : goal.returns-in-Some-clause-at
returns-in-Some-clause-at c = λ done rows.
    placed c.args.rows.now c.args.p c.args.here c.args.deed.now c.in-Some.read c.choice.result c.in-Some.ensures
    (c.choice.ensures.at done rows)
