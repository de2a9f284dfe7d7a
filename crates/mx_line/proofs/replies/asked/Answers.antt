use Rattle.std.proofs.Common.{◌≡◌, [], sym, ◌∙◌, subst}
use Rattle.mx_request.specs.declared.requests.Request.{Request}
use Rattle.mx_script.specs.declared.lines.Line.{Line}
use Rattle.mx_script.specs.declared.lines.Line.TheVariants.{Ask}
use Rattle.mx_transcript.specs.Courses.{Answer}
use Rattle.mx_line.proofs.TakenLaws.{sayable_unlinked}
use Rattle.mx_line.specs.AtWork.{IsUnlinked, StandsAt}
use Rattle.mx_line.specs.Operands.{IsSayable}
use Rattle.mx_line.proofs.replies.asked.Goals as goal

same_request : (a b : Request) → Ask a ≡ Ask b → a ≡ b
same_request a b e = cc

pub returns-in-Ask-clause-stands : goal.returns-in-Ask-clause-stands
returns-in-Ask-clause-stands c = λ request entry own is said.
    let same : c.request.result.now ≡ request
    = c.request.ensures ∙ same_request c.in-Ask.shared request (sym c.in-Ask.is ∙ own) in
    let unlinked : IsUnlinked c.request.result.now
    = subst IsUnlinked (sym same) (sayable_unlinked request (subst IsSayable own c.requires.line)) in
    subst (λ (l : Line). StandsAt c.args.control.now l (Answer entry []) c.replied.result) (sym own)
    (c.replied.ensures.stands request entry unlinked (λ block. sym same ∙ block) (is ∙ sym same) said)
