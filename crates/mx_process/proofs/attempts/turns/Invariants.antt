use Rattle.std.proofs.Common.{◌≡◌, ◌≤◌, IsTrue}
use Rattle.mx_core.specs.declared.words.Stage.TheVariants.{Ready}
use Rattle.mx_line.specs.Operands.{steps_in}
use Rattle.mx_process.specs.Attempts.{HasAttempted}
use Rattle.mx_process.specs.Processes.{known_of}
use Rattle.mx_process.specs.Turns.{Inside, IsAttempting, IsUntold}
use Rattle.mx_process.specs.declared.misses.Fast.{Fast}
use Rattle.mx_process.proofs.attempts.turns.Given as goal

-- the line is at work, and what the turns that are left come to is what all of them come to
abbrev pub invariant-loop-miss : goal.invariant-loop-miss
invariant-loop-miss g l = record {
  same : l.cam ≡ l.pass.view.memory;
  ready : l.pass.view.stage ≡ Ready;
  spare : steps_in l.state.progress ≤ l.pass.spare;
  room : steps_in l.state.progress ≤ l.state.recording.spare;
  end : IsTrue l.state.recording.line_room;
  attempting : IsAttempting g.B.Sitting.session g.B.Sitting.setup l.state l.line (known_of l.pass);
  whole : (came : Fast) (after : Inside) → HasAttempted g.B.Sitting.session g.B.Sitting.setup l.line l.state came after
      → HasAttempted g.B.Sitting.session g.B.Sitting.setup l.line l.initial.state came after;
  untold : IsUntold l.initial.pass l.pass;
}

abbrev pub decreases-loop-miss : goal.decreases-loop-miss
decreases-loop-miss g l = steps_in l.state.progress
