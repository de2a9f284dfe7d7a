use Rattle.std.proofs.Common.{◌≡◌, ◌<◌, ℕ, Some}
use Rattle.std.specs.List.{slice_get}
use Rattle.mx_process.specs.Lines.{HasNoLine}
use Rattle.mx_process.specs.Processes.{ProcessValue}
use Rattle.mx_proc.proofs.turns.has_none.Given as goal

-- none of the processes so far has a line left
abbrev pub invariant-loop-process : goal.invariant-loop-process
invariant-loop-process g l =
    (i : ℕ) (v : ProcessValue) → i < l.process-index → slice_get l.row i ≡ Some v → HasNoLine g.B.Sitting.session v
