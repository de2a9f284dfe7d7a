use Rattle.std.proofs.Common.{◌≡◌, None}
use Rattle.mx_core.specs.declared.words.Stage.TheVariants.{Ready}
use Rattle.mx_line.specs.declared.operands.Progress.TheVariants.{Before}
use Rattle.mx_process.specs.Stays.{HasHurried, gone_out}
use Rattle.mx_process.specs.Turns.{inside}
use Rattle.mx_process.proofs.stays.do_lines.Given as goal

-- the lines done so far have ended, and the next one has not begun
abbrev pub invariant-loop : goal.invariant-loop
invariant-loop g l = record {
  same : l.cam ≡ l.pass.view.memory;
  ready : l.pass.view.stage ≡ Ready;
  before : l.state.progress ≡ Before;
  hurried : HasHurried g.B.Sitting.session g.B.Sitting.setup g.B.Attending.accounts l.script
      (gone_out (inside l.initial.state l.initial.pass)) None None
      (gone_out (inside l.state l.pass));
}
