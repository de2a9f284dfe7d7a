use Rattle.std.proofs.Common.{◌≡◌, Err, ap, sym, ◌∙◌, subst}
use Rattle.mx_request.proofs.StepLaws.{some_is}
use Rattle.mx_reader.proofs.ReadLaws.{bad_end, only_run, whole_text}
use Rattle.mx_reader.specs.FirstBadLine.{IsFirstBad}
use Rattle.mx_reader.specs.RunTexts.{IsSomeRun}
use Rattle.mx_reader.specs.declared.reading.ReadText.TheVariants.{BadLine}
use Rattle.mx_reader.proofs.reading.read.Goals as goal

pub returns-in-Err-clause-bad_line : goal.returns-in-Err-clause-bad_line
returns-in-Err-clause-bad_line c =
    λ n e.
    let same : c.in-Err.error ≡ BadLine n = cc in
    c.read_lines.ensures.bad_line n (c.in-Err.is ∙ ap Err same)

pub returns-in-Some-clause-found : goal.returns-in-Some-clause-found
returns-in-Some-clause-found c =
    whole_text _ c.in-Ok.rest.now _ c.read_lines.new.draft _ c.in-Ok.ensures.lines (sym c.finish.ensures ∙ c.in-Some.is)

pub returns-in-Some-clause-only : goal.returns-in-Some-clause-only
returns-in-Some-clause-only c =
    λ journal transcripts is.
    some_is _ _
    (sym c.in-Some.is ∙ c.finish.ensures
    ∙ only_run _ c.in-Ok.rest.now _ c.read_lines.new.draft journal transcripts c.in-Ok.ensures.lines c.in-Ok.ensures.all is)

pub returns-in-None-clause-bad_line : goal.returns-in-None-clause-bad_line
returns-in-None-clause-bad_line c =
    λ n e.
    let same : c.in-Ok.number ≡ n = cc in
    subst (IsFirstBad IsSomeRun c.args.bytes.now) same
    (bad_end _ c.in-Ok.rest.now _ c.read_lines.new.draft c.in-Ok.ensures.lines c.in-Ok.ensures.all
    (sym c.finish.ensures ∙ c.in-None.is))
