use Rattle.std.proofs.Common.{◌≡◌, ◌<◌, ◌++◌, ℕ}
use Rattle.mx_closing.specs.Opening.{known_row}
use Rattle.mx_sdw.specs.Admissible.{IsAdmissible}
use Rattle.mx_state.specs.Table.{descriptor}
use Rattle.mx_sup.specs.Supervised.{state_of}
use Rattle.mx_closing.proofs.opening.add_known.Given as goal

abbrev pub invariant-loop-segno : goal.invariant-loop-segno
invariant-loop-segno l = record {
  known : l.base ≡ l.initial.base ++ known_row l.p (descriptor (state_of l.supervisor) l.p) l.segno;
  admissible : (n : ℕ) → n < l.segno → IsAdmissible (descriptor (state_of l.supervisor) l.p n);
}
