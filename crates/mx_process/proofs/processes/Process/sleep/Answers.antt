use Rattle.std.proofs.Common.{◌≡◌, ◌∙◌, None, ap}
use Rattle.mx_process.proofs.CallLaws.{block_begins, slept_done, slept_err, slept_process}
use Rattle.mx_process.specs.Processes.{ProcessValue}
use Rattle.mx_process.proofs.processes.Process.sleep.Goals as goal

pub sleep-requires-clause-calls : goal.sleep-requires-clause-calls
sleep-requires-clause-calls g c =
    block_begins g.B.Sitting.session g.B.Sitting.setup g.B.Attending.accounts c.self.inside.script.now c.self.inside.cam _ _
    c.present-line.result.now c.self.view_is c.self.invariant c.present-line.ensures c.requires.calls c.requires.settled

pub invariant_of-self : goal.invariant_of-self
invariant_of-self g c =
    let settled : c.self.inside.missing ≡ None = ap (λ (v : ProcessValue). v.missing) c.self.view_is ∙ c.requires.settled in
    slept_process g.B.Sitting.session g.B.Sitting.setup g.B.Attending.accounts c.self.inside.script.now c.self.inside.cam _ _
    c.sleep.new.state c.sleep.new.pass c.present-line.result.now c.self.view_is c.self.invariant c.sleep.ensures.grown settled
    c.sleep.result c.sleep.ensures.ended c.sleep.ensures.err c.present-line.ensures

pub returns-clause-done : goal.returns-clause-done
returns-clause-done g c =
    let settled : c.self.inside.missing ≡ None = ap (λ (v : ProcessValue). v.missing) c.self.view_is ∙ c.requires.settled in
    slept_done g.B.Sitting.session g.B.Sitting.setup g.B.Attending.accounts c.self.inside.script.now c.self.inside.cam _ _
    c.sleep.new.state c.sleep.new.pass c.present-line.result.now c.self.view_is c.self.invariant c.sleep.ensures.grown settled
    c.sleep.result c.sleep.ensures.ended

pub returns-clause-err : goal.returns-clause-err
returns-clause-err g c =
    let settled : c.self.inside.missing ≡ None = ap (λ (v : ProcessValue). v.missing) c.self.view_is ∙ c.requires.settled in
    slept_err g.B.Sitting.session g.B.Sitting.setup g.B.Attending.accounts c.self.inside.script.now c.self.inside.cam _ _
    c.sleep.new.state c.sleep.new.pass c.present-line.result.now c.self.view_is c.self.invariant c.sleep.ensures.grown settled
    c.sleep.result c.sleep.ensures.err
