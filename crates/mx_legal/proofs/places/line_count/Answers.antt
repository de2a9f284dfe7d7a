use Rattle.std.proofs.Common.{ap, subst, ◌∙◌, ◌-◌, ◌<◌, ◌≤◌, ◌≡◌, length, List}
use Rattle.std.specs.Prelude.{get_or}
use Rattle.mx_request.specs.declared.requests.Request.{Request}
use Rattle.mx_script.specs.declared.lines.Line.{Line}
use Rattle.mx_legal.proofs.LineNumbers.{no_line_count, script_line_count, setup_line_count}
use Rattle.mx_legal.proofs.places.line_count.Goals as goal

pub returns-then-p-eq0 : goal.returns-then-p-eq0
returns-then-p-eq0 c =
    setup_line_count c.args.session.now c.args.p (length c.items.result.now) c.if-p-eq0.true
    (ap (λ (requests : List Request). length requests) (c.items.ensures ∙ c.setup.ensures))

pub returns-in-None : goal.returns-in-None
returns-in-None c =
    no_line_count c.args.session.now c.args.p c.if-p-eq0.false
    (subst (λ (scripts : List (List Line)). length scripts ≤ c.args.p - 1) (c.items-2.ensures ∙ c.scripts.ensures.value)
    c.in-None.ensures.lookup.3)

pub returns-in-Some : goal.returns-in-Some
returns-in-Some c =
    let items = c.items-2.ensures ∙ c.scripts.ensures.value in
    ap (λ (script : List Line). length script) c.items-in-Some.ensures
    ∙ script_line_count c.args.session.now c.args.p c.in-Some.script.now c.if-p-eq0.false
    (subst (λ (scripts : List (List Line)). c.args.p - 1 < length scripts) items c.in-Some.ensures.lookup.3.0)
    (subst (λ (scripts : List (List Line)). c.in-Some.script.now ≡ get_or scripts (c.args.p - 1) c.in-Some.script.now) items
    c.in-Some.ensures.lookup.1)
