use Rattle.std.proofs.Common.{◌≡◌, None}
use Rattle.mx_process.proofs.CallLaws.{has_ended, resume_begins, resume_settled, resumed_process}
use Rattle.mx_process.proofs.processes.Process.resume.Goals as goal

pub resume-requires-clause-calls : goal.resume-requires-clause-calls
resume-requires-clause-calls g c =
    resume_begins g.B.Sitting.session g.B.Sitting.setup g.B.Attending.accounts c.self.inside.script.now c.self.inside.cam _ _
    c.present-line.result.now c.self.view_is c.self.invariant c.present-line.ensures c.requires.waiting

pub invariant_of-self : goal.invariant_of-self
invariant_of-self g c =
    let settled : c.self.inside.missing ≡ None
    = resume_settled g.B.Sitting.session g.B.Sitting.setup g.B.Attending.accounts c.self.inside.script.now c.self.inside.cam _ _
    c.present-line.result.now c.self.view_is c.self.invariant c.present-line.ensures c.requires.waiting in
    resumed_process g.B.Sitting.session g.B.Sitting.setup g.B.Attending.accounts c.self.inside.script.now c.self.inside.cam _ _
    c.resume.new.state c.resume.new.pass c.present-line.result.now c.self.view_is c.self.invariant c.resume.ensures.grown settled
    c.resume.result c.resume.ensures.ended c.resume.ensures.waits c.resume.ensures.state c.resume.ensures.pass c.present-line.ensures

pub returns-clause-done : goal.returns-clause-done
returns-clause-done g c is =
    let settled : c.self.inside.missing ≡ None
    = resume_settled g.B.Sitting.session g.B.Sitting.setup g.B.Attending.accounts c.self.inside.script.now c.self.inside.cam _ _
    c.present-line.result.now c.self.view_is c.self.invariant c.present-line.ensures c.requires.waiting in
    has_ended g.B.Sitting.session g.B.Sitting.setup g.B.Attending.accounts c.self.inside.script.now c.self.inside.cam _ _
    c.resume.new.state c.resume.new.pass c.present-line.result.now c.self.view_is c.self.invariant c.resume.ensures.grown settled
    (c.resume.ensures.ended is)
