use Rattle.std.proofs.Common.{◌≡◌, ◌∙◌, None, ap}
use Rattle.mx_process.proofs.CallLaws.{call_begins, called_done, called_more, called_process}
use Rattle.mx_process.specs.Processes.{ProcessValue}
use Rattle.mx_process.proofs.processes.Process.enter.Goals as goal

pub enter-requires-clause-calls : goal.enter-requires-clause-calls
enter-requires-clause-calls g c =
    call_begins g.B.Sitting.session g.B.Sitting.setup g.B.Attending.accounts c.self.inside.script.now c.self.inside.cam _ _
    c.present-line.result.now c.self.view_is c.self.invariant c.present-line.ensures c.args.ring c.args.request.now c.requires.calls
    c.requires.settled

pub invariant_of-self : goal.invariant_of-self
invariant_of-self g c =
    let settled : c.self.inside.missing ≡ None = ap (λ (v : ProcessValue). v.missing) c.self.view_is ∙ c.requires.settled in
    called_process g.B.Sitting.session g.B.Sitting.setup g.B.Attending.accounts c.self.inside.script.now c.self.inside.cam _ _
    c.enter.new.state c.enter.new.pass c.present-line.result.now c.self.view_is c.self.invariant c.enter.ensures.grown settled
    c.enter.result c.enter.ensures.came c.enter.ensures.state c.enter.ensures.pass c.present-line.ensures

pub returns-clause-more : goal.returns-clause-more
returns-clause-more g c is =
    let settled : c.self.inside.missing ≡ None = ap (λ (v : ProcessValue). v.missing) c.self.view_is ∙ c.requires.settled in
    called_more g.B.Sitting.session g.B.Sitting.setup g.B.Attending.accounts c.self.inside.script.now c.self.inside.cam _ _
    c.enter.new.state c.enter.new.pass c.present-line.result.now c.self.view_is c.self.invariant c.enter.ensures.grown settled
    c.enter.result c.enter.ensures.came is

pub returns-clause-done : goal.returns-clause-done
returns-clause-done g c is =
    let settled : c.self.inside.missing ≡ None = ap (λ (v : ProcessValue). v.missing) c.self.view_is ∙ c.requires.settled in
    called_done g.B.Sitting.session g.B.Sitting.setup g.B.Attending.accounts c.self.inside.script.now c.self.inside.cam _ _
    c.enter.new.state c.enter.new.pass c.present-line.result.now c.self.view_is c.self.invariant c.enter.ensures.grown settled
    c.enter.result c.enter.ensures.came is
