use Rattle.std.proofs.Common.{ℕ, List, Some, ap, sym, ◌∙◌}
use Rattle.mx_script.proofs.RowLaws.{accumulator_plain, plain_takes, plain_alone}
use Rattle.mx_script.proofs.reading.lines.read_row.Goals as goal

pub returns-in-Some-clause-found : goal.returns-in-Some-clause-found
returns-in-Some-clause-found c =
    let line : List ℕ = c.args.line.now in
    plain_takes line c.in-Some.row (accumulator_plain line c.in-Some.row (sym c.read_accumulator.ensures ∙ c.in-Some.is))

pub returns-in-Some-clause-only : goal.returns-in-Some-clause-only
returns-in-Some-clause-only c =
    λ r is.
    let line : List ℕ = c.args.line.now in
    let read = accumulator_plain line c.in-Some.row (sym c.read_accumulator.ensures ∙ c.in-Some.is) in
    ap Some (plain_alone line c.in-Some.row r read is)
