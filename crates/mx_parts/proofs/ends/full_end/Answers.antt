use Rattle.std.proofs.Common.{◌∙◌, rules}
use Rattle.mx_line.specs.AtWork.{call_in}
use Rattle.mx_parts.proofs.EndLaws.{full_ends}
use Rattle.mx_parts.specs.Ends.{IsCall}
use Rattle.mx_parts.proofs.ends.full_end.Goals as goal

pub returns-then-is_call-clause-end : goal.returns-then-is_call-clause-end
returns-then-is_call-clause-end c = λ setting full.
    let call : IsCall (call_in c.args.line.now c.args.ring c.args.called.now) = search rules in
    full_ends setting c.args.control.now (call_in c.args.line.now c.args.ring c.args.called.now) c.full.result call
    (λ ring request. c.full.ensures.end setting ring request (full ∙ c.if-is_full.true))
