use Rattle.std.proofs.Common.{ℕ, subst, sym}
use Rattle.mx_script.specs.declared.lines.Line.{Line}
use Rattle.mx_script.specs.declared.lines.Line.TheVariants.{Ask}
use Rattle.mx_process.proofs.CallLaws.{own_no_resume}
use Rattle.mx_process.specs.Processes.{IsAtLine, ProcessValue}
use Rattle.mx_process.proofs.processes.Process.make_request.Goals as goal

pub make_call-requires-clause-other : goal.make_call-requires-clause-other
make_call-requires-clause-other g c =
    let at : (number : ℕ) × IsAtLine g.B.Sitting.session c.args.self.now number (Ask c.args.request.now)
    = subst (λ (l : Line). (number : ℕ) × IsAtLine g.B.Sitting.session c.args.self.now number l) c.requires.line c.requires.at in
    let mine = subst (λ (v : ProcessValue). (number : ℕ) × IsAtLine g.B.Sitting.session v number (Ask c.args.request.now))
    (sym c.self.view_is) at in
    own_no_resume g.B.Sitting.session g.B.Sitting.setup g.B.Attending.accounts c.self.inside.script.now c.self.inside.cam _ mine.0
    c.args.request.now c.self.invariant mine.1
