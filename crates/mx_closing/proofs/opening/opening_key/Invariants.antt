use Rattle.std.proofs.Common.{◌≡◌, ◌<◌, ◌≤◌, ℕ}
use Rattle.mx_closing.specs.Opening.{known_rows}
use Rattle.mx_sdw.specs.Admissible.{IsAdmissible}
use Rattle.mx_state.specs.Table.{descriptor}
use Rattle.mx_sup.specs.Supervised.{state_of}
use Rattle.mx_closing.proofs.opening.opening_key.Given as goal

abbrev pub invariant-loop-i : goal.invariant-loop-i
invariant-loop-i l = record {
  known : l.base ≡ known_rows l.layout.numbers (descriptor (state_of l.supervisor)) l.i;
  admissible : (p n : ℕ) → 1 ≤ p → p ≤ l.i → n < l.layout.numbers
      → IsAdmissible (descriptor (state_of l.supervisor) p n);
}
