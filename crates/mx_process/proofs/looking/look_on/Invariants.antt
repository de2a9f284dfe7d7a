use Rattle.std.proofs.Common.{◌≡◌, ◌≤◌, IsTrue}
use Rattle.mx_core.specs.declared.words.Stage.TheVariants.{Ready}
use Rattle.mx_line.specs.Operands.{steps_in}
use Rattle.mx_line.specs.declared.operands.Progress.TheVariants.{Walking}
use Rattle.mx_line.specs.declared.processes.Process.{Process as LineState}
use Rattle.mx_process.specs.Processes.{known_of}
use Rattle.mx_process.specs.Turns.{GoesOn, IsAttempting, IsUntold, inside, walking}
use Rattle.mx_process.proofs.looking.look_on.Given as goal

-- the line is at work where its walk stands, and whoever had come to where it stood at first has come to there
abbrev pub invariant-loop-place : goal.invariant-loop-place
invariant-loop-place g l = record {
  same : l.cam ≡ l.pass.view.memory;
  ready : l.pass.view.stage ≡ Ready;
  spare : steps_in (Walking l.at) ≤ l.pass.spare;
  room : steps_in (Walking l.at) ≤ l.state.recording.spare;
  end : IsTrue l.state.recording.line_room;
  attempting : IsAttempting g.B.Sitting.session g.B.Sitting.setup (walking l.state l.at) l.line (known_of l.pass);
  goes : (old : LineState) → GoesOn g.B.Sitting.session g.B.Sitting.setup l.line old (inside (walking l.initial.state l.initial.at) l.initial.pass)
      → GoesOn g.B.Sitting.session g.B.Sitting.setup l.line old (inside (walking l.state l.at) l.pass);
  untold : IsUntold l.initial.pass l.pass;
}

abbrev pub decreases-loop-place : goal.decreases-loop-place
decreases-loop-place g l = steps_in (Walking l.at)
