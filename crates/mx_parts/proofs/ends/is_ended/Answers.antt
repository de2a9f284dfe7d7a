use Rattle.std.proofs.Common.{subst, ap, ◌∙◌, Option, rules}
use Rattle.mx_line.specs.AtWork.{IsGoodEnd}
use Rattle.mx_line.specs.declared.asking.End.{End}
use Rattle.mx_parts.proofs.EndLaws.{none_judged, some_judged}
use Rattle.mx_parts.specs.Ends.{HasEnd}
use Rattle.mx_transcript.specs.Asking.{next}
use Rattle.mx_upcall.specs.Changes.{changed}
use Rattle.mx_upcall.specs.Control.{Control}
use Rattle.mx_parts.proofs.ends.is_ended.Goals as goal

pub returns-in-Some-clause-judged : goal.returns-in-Some-clause-judged
returns-in-Some-clause-judged c = λ setting events full right.
    let g = c.args.process.now.control in
    let good : IsGoodEnd g c.in-Some.end = search rules in
    some_judged setting g c.args.line.now events c.args.ends.now c.args.work c.in-Some.end c.takes_end.new.process.control
    c.takes_end.result right
    (λ course stands. subst (λ (found : Option End). HasEnd setting g (next g c.args.line.now course) found) c.in-Some.is
    (c.end_at.ensures.end setting course full stands))
    good c.takes_end.ensures.result
    (λ yes. c.takes_end.ensures.control yes ∙ ap (λ (h : Control). changed h c.in-Some.end.after) c.end_at.ensures.control)

pub returns-in-None-clause-judged : goal.returns-in-None-clause-judged
returns-in-None-clause-judged c = λ setting events full right.
    let g = c.args.process.now.control in
    none_judged setting g c.args.line.now events c.args.ends.now c.args.work right
    (λ course stands. subst (λ (found : Option End). HasEnd setting g (next g c.args.line.now course) found) c.in-None.is
    (c.end_at.ensures.end setting course full stands))
