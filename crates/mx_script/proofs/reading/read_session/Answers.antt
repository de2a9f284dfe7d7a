use Rattle.std.proofs.Common.{◌≡◌, Err, ap, sym, ◌∙◌, subst}
use Rattle.mx_request.proofs.StepLaws.{some_is}
use Rattle.mx_script.proofs.ReadingLaws.{countable, bad_end, only_session, whole_text}
use Rattle.mx_script.specs.FirstBadLine.{IsFirstBad}
use Rattle.mx_script.specs.declared.reading.SessionError.TheVariants.{BadLine}
use Rattle.mx_script.proofs.reading.read_session.Goals as goal

pub returns-in-Err-clause-bad_line : goal.returns-in-Err-clause-bad_line
returns-in-Err-clause-bad_line c =
    λ n e.
    let same : c.in-Err.error ≡ BadLine n = cc in
    c.read_lines.ensures.bad_line n (c.in-Err.is ∙ ap Err same)

pub finish-requires : goal.finish-requires
finish-requires c = countable _ c.in-Ok.rest.now _ c.read_lines.new.draft c.in-Ok.ensures.lines c.requires

pub returns-in-Some-clause-found : goal.returns-in-Some-clause-found
returns-in-Some-clause-found c =
    whole_text _ c.in-Ok.rest.now _ c.read_lines.new.draft _ c.in-Ok.ensures.lines (sym c.finish.ensures ∙ c.in-Some.is)

pub returns-in-Some-clause-only : goal.returns-in-Some-clause-only
returns-in-Some-clause-only c =
    λ x t.
    some_is _ _
    (sym c.in-Some.is ∙ c.finish.ensures
    ∙ only_session _ c.in-Ok.rest.now _ c.read_lines.new.draft x c.in-Ok.ensures.lines c.in-Ok.ensures.all t)

pub returns-in-None-clause-bad_line : goal.returns-in-None-clause-bad_line
returns-in-None-clause-bad_line c =
    λ n e.
    let same : c.in-Ok.number ≡ n = cc in
    subst (IsFirstBad c.args.bytes.now) same
    (bad_end _ c.in-Ok.rest.now _ c.read_lines.new.draft c.in-Ok.ensures.lines c.in-Ok.ensures.all
    (sym c.finish.ensures ∙ c.in-None.is))
