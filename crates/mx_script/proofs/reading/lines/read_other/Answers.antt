use Rattle.std.proofs.Common.{Some, Ok, ap, sym, ◌∙◌}
use Rattle.mx_script.proofs.RowLaws.{plain_takes, process_takes, plain_alone, process_alone, request_row_alone, no_request_row}
use Rattle.mx_request.specs.declared.requests.Request.{Request}
use Rattle.mx_script.specs.declared.lines.Line.TheVariants.{Ask}
use Rattle.mx_script.specs.declared.rows.Row.TheVariants as row
use Rattle.mx_script.proofs.reading.lines.read_other.Goals as goal

pub returns-in-Some-clause-found : goal.returns-in-Some-clause-found
returns-in-Some-clause-found c = plain_takes c.args.line.now c.in-Some.row (sym c.read_plain.ensures ∙ c.in-Some.is)

pub returns-in-Some-clause-only : goal.returns-in-Some-clause-only
returns-in-Some-clause-only c =
    λ r is. ap Some (plain_alone c.args.line.now c.in-Some.row r (sym c.read_plain.ensures ∙ c.in-Some.is) is)

pub returns-in-Some-read_process-clause-found : goal.returns-in-Some-read_process-clause-found
returns-in-Some-read_process-clause-found c =
    process_takes c.args.line.now c.in-Some-read_process.row (sym c.read_process.ensures ∙ c.in-Some-read_process.is)

pub returns-in-Some-read_process-clause-only : goal.returns-in-Some-read_process-clause-only
returns-in-Some-read_process-clause-only c =
    λ r is. ap Some (process_alone c.args.line.now c.in-Some-read_process.row r (sym c.read_process.ensures ∙ c.in-Some-read_process.is) is)

pub returns-in_ok-shared-in-Some-2-clause-only : goal.returns-in_ok-shared-in-Some-2-clause-only
returns-in_ok-shared-in-Some-2-clause-only c =
    λ r is.
    let request = c.in_ok-request.ensures.found c.in-Some-2.request (ap Ok c.in-Some-2.is) in
    ap (λ (asked : Request). Some (row.Line (Ask asked))) c.in_ok-shared-in-Some-2.ensures
    ∙ ap Some (request_row_alone c.args.line.now c.in-Some-2.request r (sym c.in_default.ensures)
    (sym c.in_default-read_process.ensures) request.0 request.1 is)

pub returns-in-None-clause-only : goal.returns-in-None-clause-only
returns-in-None-clause-only c =
    λ r is.
    absurd (no_request_row c.args.line.now r (sym c.in_default.ensures) (sym c.in_default-read_process.ensures)
    (c.in_ok-request.ensures.none (ap Ok c.in-None.is)) is)
