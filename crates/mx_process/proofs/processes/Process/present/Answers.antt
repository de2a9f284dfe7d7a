use Rattle.std.proofs.Common.{ℕ, ap, subst, sym, ◌∙◌, Bor}
use Rattle.std.specs.Option.{option_map}
use Rattle.mx_script.specs.declared.lines.Line.{Line}
use Rattle.mx_process.proofs.ProcessLaws.{line_next, no_line}
use Rattle.mx_process.specs.Processes.{HasLine, IsAtLine, ProcessValue}
use Rattle.mx_process.proofs.processes.Process.present.Goals as goal

pub unreachable-requires : goal.unreachable-requires
unreachable-requires g c =
    no_line g.B.Sitting.session g.B.Sitting.setup g.B.Attending.accounts c.self.inside.script.now c.self.inside.cam _
    c.self.invariant c.lines.result c.lines.ensures
    (sym c.line_at.ensures ∙ ap (option_map (λ (line : Bor Line). line.now)) c.in_default.is)
    (subst (HasLine g.B.Sitting.session) (sym c.self.view_is) c.requires)

pub returns : goal.returns
returns g c =
    subst (λ (v : ProcessValue). (n : ℕ) × IsAtLine g.B.Sitting.session v n c.in-Some.line.now) c.self.view_is
    (line_next g.B.Sitting.session g.B.Sitting.setup g.B.Attending.accounts c.self.inside.script.now c.self.inside.cam _
    c.self.invariant c.lines.result c.lines.ensures c.in-Some.line.now
    (sym c.line_at.ensures ∙ ap (option_map (λ (line : Bor Line). line.now)) c.in-Some.is))
